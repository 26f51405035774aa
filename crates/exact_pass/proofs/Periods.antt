-- Passes that go round, and the rounds left out.
use Prim.Native.Nat.{ℕ, ◌+◌, ◌%◌}
use Rattle.loops.proofs.Common.{◌≡◌, refl, ap, ◌∙◌, List, Float}
use Rattle.loops.specs.Loops.{turns}
use Rattle.loops.proofs.Rounds.{turns_more, rounds_left_out}
use Rattle.box_rows.specs.Rows as box
use Rattle.exact_pass.specs.Pass as pass
use Rattle.exact_pass.specs.Pass.{Trial, Pass, moved, found, failed, infeasible}

-- a step does not look at its number
alike : (p : box.Problem) (i j : ℕ) (c : Pass) → pass.step p i c ≡ pass.step p j c
unfolding pass.step
alike p i j (moved t) = refl
alike p i j (found t) = refl
alike p i j (failed t) = refl
alike p i j (infeasible l t) = refl

-- so many steps, and then more
pub steps_more : (p : box.Problem) (t u : Trial) (a b : ℕ) → pass.steps p t a ≡ moved u → pass.steps p t (a + b) ≡ pass.steps p u b
unfolding pass.steps
steps_more p t u a b h = turns_more (pass.step p) (alike p) (moved t) a b ∙ ap (λ (c : Pass). turns b c (pass.step p)) h

-- t has come back to what is marked
pub rest-is : (m t : Trial) (since rest : ℕ) → t ≡ m → (p : box.Problem) → pass.steps p m since ≡ moved t → pass.steps p t rest ≡ pass.steps p t (rest % since)
unfolding pass.steps
rest-is m t since rest e p h = rounds_left_out (pass.step p) (alike p) (moved t) since (rw (← e) at h) rest

pub same_trials : {nu nu' : List Float} {st st' : List ℕ} → nu ≡ nu' → st ≡ st' → pass.trial nu st ≡ pass.trial nu' st'
same_trials e f = rw (e, f)
