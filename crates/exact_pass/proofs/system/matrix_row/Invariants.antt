use Rattle.std.proofs.Common.{◌≡◌, ◌++◌, drop}
use Rattle.exact_pass.specs.Private as private
use Rattle.exact_pass.proofs.system.matrix_row.Given as goal

abbrev pub invariant-loop-j : goal.invariant-loop-j
invariant-loop-j l = l.out ≡ private.matrix_row l.row l.scale l.free.rows.now l.j ++ drop l.j l.initial.out
