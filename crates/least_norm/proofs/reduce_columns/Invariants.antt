use Rattle.std.proofs.Common.{◌≡◌}
use Rattle.least_norm.specs.LeastNorm.{factors, reduced, going}
use Rattle.least_norm.proofs.reduce_columns.Given as goal

abbrev pub invariant-loop-j : goal.invariant-loop-j
invariant-loop-j l = going (factors l.a l.b l.perm) ≡ reduced l.size.m l.size.n l.initial.a l.initial.b l.j
