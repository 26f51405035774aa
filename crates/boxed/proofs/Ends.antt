-- The end of a solve: what the code answers and leaves is what the result of its run says.
use Prim.Native.Nat.{ℕ}
use mathlib.Core.Path.{◌≡◌, ap, ◌∙◌}
use Rattle.std.specs.Prelude.{Ok, Option, Some, None}
use mathlib.Core.Bool.{Bool, true, false}
use mathlib.Core.List.{List}
use lib.Ieee.{Float}
use Rattle.box_rows.specs.Rows as box
use Rattle.boxed.specs.Sweep as sweep
use Rattle.boxed.specs.Solve as solve
use Rattle.boxed.specs.Solve.{going, ended, exact, converged, conflict, Iterate, iterate}
use Rattle.boxed.specs.Private.{Answered}
use Rattle.boxed.specs.declared.Counts.{Counts}
use Rattle.boxed.specs.declared.Ended.{Ended}
use Rattle.boxed.specs.declared.Ended.TheVariants as by
use Rattle.boxed.specs.declared.Cause.{Cause}
use Rattle.boxed.specs.declared.BoxReport.{BoxReport}
use Rattle.boxed.specs.declared.BoxOutcome.{BoxOutcome}
use Rattle.boxed.specs.declared.BoxOutcome.TheVariants.{Solved, Infeasible}

-- the answer of a solve that had come to s when it ended so, and the states that are left
abbrev answered : box.Problem → ℕ → Option Ended → Iterate → BoxOutcome
answered p idle None s = Solved (solve.report_of p idle false false s)
answered p idle (Some by.Exact) s = Solved (solve.report_of p idle true true s)
answered p idle (Some by.Converged) s = Solved (solve.report_of p idle true false s)
answered p idle (Some (by.Infeasible c k)) s = Infeasible c k (solve.report_of p idle false false s)

abbrev classified : box.Problem → Iterate → List ℕ
classified p s = sweep.classified p.lo p.hi p.scale s.nu s.states (box.size p)

abbrev states_left : box.Problem → Option Ended → Iterate → List ℕ
states_left p None s = classified p s
states_left p (Some by.Exact) s = s.states
states_left p (Some by.Converged) s = classified p s
states_left p (Some (by.Infeasible c k)) s = s.states

nu_is : {nu : List Float} {st : List ℕ} {c : Counts} {s : Iterate} → iterate nu st c ≡ s → nu ≡ s.nu
nu_is e = ap (λ (x : Iterate). x.nu) e

states_are : {nu : List Float} {st : List ℕ} {c : Counts} {s : Iterate} → iterate nu st c ≡ s → st ≡ s.states
states_are e = ap (λ (x : Iterate). x.states) e

module _ (p : box.Problem) (idle : ℕ) (g : Option Ended) (nu : List Float) (st : List ℕ) (c : Counts) where
  finished : (a : BoxOutcome) (st' : List ℕ) → a ≡ answered p idle g (iterate nu st c) → st' ≡ states_left p g (iterate nu st c)
      → Answered p idle g nu st c a st'
  unfolding solve.result solve.unfound
  finished a st' e f (going s) l₀ l h =
      let n = nu_is h.reached in
      record { answer = ap Ok (rw (h.answer, h.reached) at e); multipliers = n; states = rw (← n, ← states_are h.reached) (rw h.answer at f); listed = h.listed }
  finished a st' e f (ended exact s) l₀ l h =
      record { answer = ap Ok (rw (h.answer, h.reached) at e); multipliers = nu_is h.reached; states = (rw h.answer at f) ∙ states_are h.reached; listed = h.listed }
  finished a st' e f (ended converged s) l₀ l h =
      let n = nu_is h.reached in
      record { answer = ap Ok (rw (h.answer, h.reached) at e); multipliers = n; states = rw (← n, ← states_are h.reached) (rw h.answer at f); listed = h.listed }
  finished a st' e f (ended (conflict b r) s) l₀ l h =
      record { answer = ap Ok (rw (h.answer, h.reached) at e); multipliers = nu_is h.reached; states = (rw h.answer at f) ∙ states_are h.reached; listed = h.listed }

  -- one law for each return: x is the residual, and q the report
  module _ (x : Float) (e : x ≡ sweep.residual p st nu (box.size p)) (q : BoxReport) where
    abbrev reported : Bool → Bool → BoxReport
    reported a b = record { sweeps = c.sweeps; exact_passes = c.passes; converged = a; exact = b; residual = x; idle = idle; stopped = c.stopped }

    pub end-exact : (b : Ended) → g ≡ Some b → b ≡ by.Exact → q ≡ reported true true → Answered p idle g nu st c (Solved q) st
    unfolding solve.report_of
    end-exact b h i f = finished (Solved q) st (rw (h, i, f, e)) (rw (h, i))

    pub end-infeasible : (a : Cause) (k : ℕ) (b : Ended) → g ≡ Some b → b ≡ by.Infeasible a k → q ≡ reported false false → Answered p idle g nu st c (Infeasible a k q) st
    unfolding solve.report_of
    end-infeasible a k b h i f = finished (Infeasible a k q) st (rw (h, i, f, e)) (rw (h, i))

    module _ (st' : List ℕ) (s : st' ≡ sweep.classified p.lo p.hi p.scale nu st (box.size p)) where
      pub end-going : g ≡ None → q ≡ reported false false → Answered p idle g nu st c (Solved q) st'
      unfolding solve.report_of
      end-going h f = finished (Solved q) st' (rw (h, f, e)) (rw (h, s))

      pub end-converged : (b : Ended) → g ≡ Some b → b ≡ by.Converged → q ≡ reported true false → Answered p idle g nu st c (Solved q) st'
      unfolding solve.report_of
      end-converged b h i f = finished (Solved q) st' (rw (h, i, f, e)) (rw (h, i, s))
