use Rattle.std.proofs.Common.{◌≡◌, drop, Ok}
use Rattle.report.specs.Joins as joins
use Rattle.report.proofs.join_all.Given as goal

-- joining the rest to what is joined so far is joining all
abbrev pub invariant-loop-report : goal.invariant-loop-report
invariant-loop-report l = joins.from (Ok l.so_far) (drop l.report-index l.reports) ≡ joins.all l.reports
