-- Words of private contracts: how the code joins a report by the answer in place of the outcome. No promise of a public
-- call stands on them; those are in Joining.antt. Definitions only.
use Rattle.std.specs.Prelude.{Bool, Result, Ok, Err}
use Rattle.boxed.specs.declared.BoxReport.{BoxReport}
use Rattle.boxed.specs.declared.BoxOutcome.{BoxOutcome}
use Rattle.boxed.specs.declared.BoxOutcome.TheVariants.{Solved, Infeasible}
use Rattle.refusals.specs.declared.Refusal.{Refusal}
use Rattle.report.specs.Joins as joins
use Rattle.report.specs.declared.SolveReport.{SolveReport}
use Rattle.tally.specs.Tally.{kept, turned}

-- a solve's report joined to the tally, none of the multipliers left being NaN, or some
unfoldable pub added : SolveReport → BoxReport → Bool → SolveReport
added t r none = kept t (joins.and t (turned r none))

-- what an answer adds to the tally: a refused solve nothing
abbrev pub joined_by : SolveReport → Result BoxOutcome Refusal → Bool → SolveReport
joined_by t (Err k) none = t
joined_by t (Ok (Solved r)) none = added t r none
joined_by t (Ok (Infeasible c n r)) none = added t r none
