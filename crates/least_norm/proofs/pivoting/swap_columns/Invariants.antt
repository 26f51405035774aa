use Rattle.std.proofs.Common.{◌≡◌}
use Rattle.least_norm.specs.Private.{swap_columns}
use Rattle.least_norm.proofs.pivoting.swap_columns.Given as goal

abbrev pub invariant-loop-row : goal.invariant-loop-row
invariant-loop-row l = l.a ≡ swap_columns l.size.n l.j l.c l.initial.a l.row
