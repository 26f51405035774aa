-- The steps of a pass as their loop makes them.
use Rattle.loops.proofs.Common.{ℕ, ◌+◌, ◌-◌, ◌*◌, ◌≤◌, ◌<◌, ◌≡◌, refl, sym, ap, ◌∙◌, List, arith, length, take, drop, Float}
use Rattle.std.proofs.Common.{Option, Some, None}
use Rattle.loops.specs.Loops.{turns}
use Rattle.loops.proofs.Turns.{stays}
use Rattle.box_rows.specs.Rows as box
use Rattle.box_rows.proofs.Matrix.{later}
use Rattle.exact_pass.specs.Pass as pass
use Rattle.exact_pass.specs.Pass.{Trial, trial, Pass, moved, found, failed, infeasible}
use Rattle.exact_pass.specs.Promise as promise
use Rattle.exact_pass.specs.Private as private
use Rattle.exact_pass.specs.Private.{Passed, Copied, RunLent, AfterLent, Stepped}
use Rattle.exact_pass.specs.declared.Cycle.{Cycle}
use Rattle.exact_pass.specs.declared.Exact.{Exact}
use Rattle.exact_pass.specs.declared.Exact.TheVariants.{Failed}
use Rattle.exact_pass.proofs.Periods.{steps_more}

-- ---- how a step ends a pass, or does not

going_on : (c : Pass) (q : List ℕ) (nu : List Float) (st q' : List ℕ) → Passed c q None nu st q' → (c ≡ moved (trial nu st)) × (q' ≡ q)
going_on (moved t) q nu st q' h = (ap moved (sym h.tried), h.listed)
going_on (found t) q nu st q' h = cc (h.answer)
going_on (failed t) q nu st q' h = cc (h.answer)
going_on (infeasible l t) q nu st q' h = cc (h.answer)

-- a step that ends the pass ends it for good
ended_stays : (p : box.Problem) (c : Pass) {q : List ℕ} (e : Exact) {nu : List Float} {st q' : List ℕ} → Passed c q (Some e) nu st q' → ((i : ℕ) → pass.step p i c ≡ c) × promise.Passed (pass.closed c) q e nu st q'
unfolding pass.step pass.closed
ended_stays p (moved t) e h = cc (h.answer)
ended_stays p (found t) e h = (λ i. refl, record { answer = cc (h.answer); tried = h.tried; listed = h.listed })
ended_stays p (failed t) e h = (λ i. refl, record { answer = cc (h.answer); tried = h.tried; listed = h.listed })
ended_stays p (infeasible l t) e h = (λ i. refl, record { answer = cc (h.answer); tried = h.tried; listed = h.listed })

steps-start : (p : box.Problem) (t : Trial) → pass.steps p t 0 ≡ moved t
unfolding pass.steps turns
steps-start p t = refl

abbrev next : box.Problem → Trial → Pass
next p t = pass.step_of p t (pass.free_rows t.states (box.size p))

steps-one : (p : box.Problem) (t : Trial) → pass.steps p t 1 ≡ next p t
unfolding pass.steps pass.step turns
steps-one p t = refl

-- multipliers and states marked anew
pub marked_new : (p : box.Problem) (nu m : List Float) (st k : List ℕ) → m ≡ nu → k ≡ st → pass.steps p (trial m k) 0 ≡ moved (trial nu st)
marked_new p nu m st k e f = rw (e, f) (steps-start p (trial nu st))

-- ---- the loop of the steps: b is what it began with, n what it has now

pub record Now : Type 0 where
  pub st : List ℕ
  pub nu : List Float
  pub q : List ℕ
  pub work : List Float
  pub marks : List ℕ
  pub mark : Cycle

abbrev pub now : List ℕ → List Float → List ℕ → List Float → List ℕ → Cycle → Now
now st nu q work marks mark = record { st = st; nu = nu; q = q; work = work; marks = marks; mark = mark }

abbrev at : Now → Trial
at n = trial n.nu n.st

abbrev marked : Now → Trial
marked n = private.marked (length n.nu) n.work n.marks

pub record Going (p : box.Problem) (most : ℕ) (b n : Now) : Type 0 where
  pub bounded : most ≤ 264
  pub since : n.mark.since + n.mark.remaining ≤ most
  pub span : n.mark.span ≤ 528
  pub lent : RunLent p n.st n.nu n.q n.work
  pub workspace : length n.work ≡ length b.work
  pub marks_long : length n.marks ≡ 32
  pub steps : pass.steps p (at b) most ≡ pass.steps p (at n) n.mark.remaining
  pub round : pass.steps p (marked n) n.mark.since ≡ moved (at n)
  pub listed : n.q ≡ b.q
  pub beyond : drop 1120 n.work ≡ drop 1120 b.work

-- it begins: st₀ and nu₀ are those that the pass was lent, st and nu those after its start
module _ (p : box.Problem) (st₀ : List ℕ) (nu₀ : List Float) (q : List ℕ) (work₀ : List Float) (r : RunLent p st₀ nu₀ q work₀) (st : List ℕ) (nu work : List Float) (acting : ℕ)
    (kept-nu : length nu ≡ length nu₀) (copied : Copied nu 1088 work₀ work) where
  pub going_start : (marks : List ℕ) → acting ≤ box.size p → box.size p ≤ 32 → length st ≡ length st₀ → length work ≡ length work₀ → take (length st) marks ≡ st → length marks ≡ 32
      → let most = 8 * acting + 8 in let n = now st nu q work marks (record { since = 0; span = 2; remaining = most }) in Going p most n n
  going_start marks few most kept-st kept-work noted long =
      record {
        bounded = omega (arith, few, most);
        since = omega arith;
        span = omega arith;
        lent = record { states = kept-st ∙ r.states; multipliers = kept-nu ∙ r.multipliers; list = r.list; workspace = rw kept-work r.workspace };
        workspace = refl;
        marks_long = long;
        steps = refl;
        round = marked_new p nu _ st _ copied.part (rw (kept-st ∙ r.states ∙ sym (kept-nu ∙ r.multipliers)) at noted);
        listed = refl;
        beyond = refl;
      }

  -- what the pass leaves, by what its loop leaves
  pub pass_ran : (e : Exact) (nu' : List Float) (st' q' : List ℕ) (work' : List Float) → private.Started (pass.start p.lo p.hi p.scale nu₀ st₀ (box.size p)) (box.size p) nu st acting → box.size p ≤ 32
      → promise.Passed (pass.closed (pass.steps p (trial nu st) (8 * acting + 8))) q e nu' st' q' × (drop 1120 work' ≡ drop 1120 work) → private.Ran p st₀ nu₀ q work₀ e nu' st' q' work'
  unfolding pass.exact_pass
  pass_ran e nu' st' q' work' s few a =
      record {
        passed = rw (← s.start) a.0;
        workspace = a.1 ∙ later (1088 + length nu) 1120 work work₀ (omega (arith, kept-nu, r.multipliers, few)) copied.after;
      }

-- ---- one turn, from what its calls promise

module _ (p : box.Problem) (most : ℕ) (b n : Now) (g : Going p most b n) where
  module _ (e : Option Exact) (nu : List Float) (st q : List ℕ) (work : List Float) (s : Stepped (next p (at n)) n.q n.work e nu st q work) (more_left : 0 < n.mark.remaining) where
    beyond-step : drop 1120 work ≡ drop 1120 b.work
    beyond-step = later 1088 1120 work n.work (omega arith) s.workspace ∙ g.beyond

    -- the pass ends in this step
    pub going_ended : (x : Exact) → e ≡ Some x → promise.Passed (pass.closed (pass.steps p (at b) most)) b.q x nu st q × (drop 1120 work ≡ drop 1120 b.work)
    unfolding pass.steps
    going_ended x f =
        let o = ended_stays p (next p (at n)) x (rw f at s.passed) in
        let t = g.steps ∙ stays (pass.step p) (moved (at n)) (next p (at n)) 1 (steps-one p (at n)) (λ i h. o.0 i) n.mark.remaining more_left in
        (rw (← g.listed, t) o.1, beyond-step)

    -- the pass goes on with fewer steps, and may be marked anew
    pub going_again : (work' : List Float) (marks : List ℕ) (mark : Cycle) → e ≡ None → private.MarkedOn (trial nu st) n.mark work n.marks mark work' marks
        → length st ≡ length n.st → length nu ≡ length n.nu → length q ≡ length n.q → length work ≡ length n.work → length work' ≡ length work → length marks ≡ length n.marks → Going p most b (now st nu q work' marks mark)
    going_again work' marks mark f a kept-st kept-nu kept-q kept-step kept-work kept-marks =
        let o = going_on (next p (at n)) n.q nu st q (rw f at s.passed) in
        let one : pass.steps p (at n) 1 ≡ moved (trial nu st) = steps-one p (at n) ∙ o.0 in
        let less : 1 + (n.mark.remaining - 1) ≡ n.mark.remaining = omega arith in
        let more : pass.steps p (at n) n.mark.remaining ≡ pass.steps p (trial nu st) (n.mark.remaining - 1) = ap (pass.steps p (at n)) (sym less) ∙ steps_more p (at n) (trial nu st) 1 (n.mark.remaining - 1) one in
        let since : pass.steps p (marked n) (n.mark.since + 1) ≡ moved (trial nu st) = steps_more p (marked n) (at n) n.mark.since 1 g.round ∙ one in
        let round : pass.steps p (private.marked (length nu) work n.marks) (n.mark.since + 1) ≡ moved (trial nu st) = rw (kept-nu, s.workspace) since in
        record {
          bounded = g.bounded;
          since = omega (arith, a.since, a.remaining.fewer, g.since, more_left);
          span = a.span;
          lent = record { states = kept-st ∙ g.lent.states; multipliers = kept-nu ∙ g.lent.multipliers; list = rw kept-q g.lent.list; workspace = rw (kept-work, kept-step) g.lent.workspace };
          workspace = kept-work ∙ kept-step ∙ g.workspace;
          marks_long = kept-marks ∙ g.marks_long;
          steps = g.steps ∙ more ∙ a.remaining.steps p round;
          round = a.round p round;
          listed = o.1 ∙ g.listed;
          beyond = a.beyond ∙ beyond-step;
        }

  -- no step remains
  pub going_over : n.mark.remaining ≤ 0 → promise.Passed (pass.closed (pass.steps p (at b) most)) b.q Failed n.nu n.st n.q × (drop 1120 n.work ≡ drop 1120 b.work)
  unfolding pass.closed
  going_over z =
      let e : n.mark.remaining ≡ 0 = omega arith in
      let x : pass.steps p (at b) most ≡ moved (at n) = g.steps ∙ ap (pass.steps p (at n)) e ∙ steps-start p (at n) in
      (rw x (record { answer = refl; tried = refl; listed = g.listed }), g.beyond)
