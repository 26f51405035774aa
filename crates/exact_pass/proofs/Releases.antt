-- The release of a row on a bound, from what the calls promise.
use Rattle.std.proofs.Common.{ℕ, ◌<◌, ◌≡◌, refl, Bool, true, false, cond, Some, None, IfSome, List, Float, set}
use Rattle.loops.proofs.Turns.{turns_keep}
use lib.Ieee.{lt}
use Rattle.floats.specs.Ops.{at}
use Rattle.box_rows.specs.Rows as box
use Rattle.exact_pass.specs.Pass as pass
use Rattle.exact_pass.specs.Private as private
use Rattle.exact_pass.specs.Private.{Passed}
use Rattle.exact_pass.specs.declared.Worst.{Worst}
use Rattle.exact_pass.specs.declared.Exact.TheVariants.{Found}

module _ (p : box.Problem) (st : List ℕ) (nu : List Float) where
  row_within : (i : ℕ) (w : Worst) → i < box.size p → IfSome w.row (λ a. a < box.size p) → IfSome (private.release_row p st nu i w).row (λ a. a < box.size p)
  unfolding private.release_row private.worse
  row_within i w g h = go (box.pushed (box.state st i) (box.row_sum (box.row p.w (box.size p) i) (at p.u_free i) nu)) (lt w.residual (box.residual_at p nu i))
    where
      go : (b c : Bool) → IfSome (cond b (cond c (record { residual = box.residual_at p nu i; row = Some i }) w) w).row (λ a. a < box.size p)
      go false c = h
      go true true = g
      go true false = h

  within : IfSome (private.worst_row p st nu (box.size p)).row (λ a. a < box.size p)
  within = turns_keep (private.release_row p st nu) _ (λ i w. IfSome w.row (λ a. a < box.size p)) _ tt row_within

  -- the row that is found
  pub released_within : (i : ℕ) → Some i ≡ (private.worst_row p st nu (box.size p)).row → i < box.size p
  released_within i e = let h = within in rw (← e) at h

  -- the release, by the row that it frees
  release_is : pass.release p (pass.trial nu st) ≡ pass.freed (pass.trial nu st) (private.worst_row p st nu (box.size p)).row
  unfolding pass.release private.release_row box.pushed private.worse
  release_is = refl

  pub release_found : None ≡ (private.worst_row p st nu (box.size p)).row → (r : List ℕ) → Passed (pass.release p (pass.trial nu st)) r (Some Found) nu st r
  release_found e r = rw (release_is, ← e) (record { answer = refl; tried = refl; listed = refl })

  pub release_moved : (i : ℕ) → Some i ≡ (private.worst_row p st nu (box.size p)).row → (r : List ℕ) → Passed (pass.release p (pass.trial nu st)) r None nu (set st i 0) r
  release_moved i e r = rw (release_is, ← e) (record { answer = refl; tried = refl; listed = refl })
