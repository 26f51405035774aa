use Rattle.std.proofs.Common.{◌≡◌}
use Rattle.box_rows.specs.Lent.{of}
use Rattle.exact_pass.specs.Private as private
use Rattle.exact_pass.proofs.release.worst_row.Given as goal

abbrev pub invariant-loop-i : goal.invariant-loop-i
invariant-loop-i l = l.worst ≡ private.worst_row (of l.t.problem.now) l.t.states.now l.t.values.now l.i
