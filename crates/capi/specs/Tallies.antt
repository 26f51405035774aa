-- A tallied solve by plain numbers: the tally as a SolveReport of ten counts and a residual, the answer as a solve's eight counts and residual. Definitions only.
use Rattle.std.specs.Prelude.{ℕ, ◌≡◌, Bool, true, false, ◌&&◌, List, leb, set, length, Float, Result, Ok, Err}
use Rattle.boxed.specs.Solve as solve
use Rattle.boxed.specs.declared.BoxOutcome.{BoxOutcome}
use Rattle.refusals.specs.declared.Refusal.{Refusal}
use Rattle.refusals.specs.declared.Refusal.TheVariants as by
use Rattle.report.specs.declared.SolveReport.{SolveReport}
use Rattle.tally.specs.Tally.{Call, Tallied, tallied}
use Rattle.capi.specs.Reports as report
use Rattle.capi.specs.Solves as plain

-- what is left of the tally's counts and of its residual, by the solve's answer: all where it is refused
abbrev pub counts_kept : Result BoxOutcome Refusal → SolveReport → List ℕ → List ℕ
counts_kept (Ok o) t l = report.written t l
counts_kept (Err k) t l = l

abbrev pub residual_kept : Result BoxOutcome Refusal → SolveReport → List Float → List Float
residual_kept (Ok o) t l = set l 0 t.residual
residual_kept (Err k) t l = l

-- ---- the call: 10 too where there is no room for ten counts and the residual of the tally, or for those of the answer

unfoldable pub taken : List ℕ → List Float → List ℕ → List Float → Bool
taken tally kept counts residual = leb 10 (length tally) && (leb 1 (length kept) && plain.taken counts residual)

unfoldable pub reply : Bool → SolveReport → Call → Tallied
reply true t c = tallied t c
reply false t c = record { tally = t; answer = record { outcome = solve.refused by.Short; nu = c.nu; states = c.states; listed = c.listed } }

pub record Answered (x : Tallied) (r : ℕ) (tally tally' : List ℕ) (kept kept' nu : List Float) (st q counts counts' : List ℕ) (residual residual' w w' : List Float) : Type 0 where
  pub answer_is : plain.Answered x.answer r nu st q counts counts' residual residual' w w'
  pub tally_is : tally' ≡ counts_kept (solve.answer_of x.answer.outcome) x.tally tally
  pub kept_is : kept' ≡ residual_kept (solve.answer_of x.answer.outcome) x.tally kept
