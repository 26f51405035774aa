use Rattle.std.proofs.Common.{◌≡◌}
use Rattle.least_norm.specs.Private.{zero_below}
use Rattle.least_norm.proofs.columns.zero_below.Given as goal

abbrev pub invariant-loop-row : goal.invariant-loop-row
invariant-loop-row l = l.a ≡ zero_below l.size.n l.j l.initial.a l.row
