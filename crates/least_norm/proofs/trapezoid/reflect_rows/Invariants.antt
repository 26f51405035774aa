use Rattle.std.proofs.Common.{◌≡◌}
use Rattle.least_norm.specs.Private.{reflect_rows}
use Rattle.least_norm.proofs.trapezoid.reflect_rows.Given as goal

abbrev pub invariant-loop-row : goal.invariant-loop-row
invariant-loop-row l = l.a ≡ reflect_rows l.u.v.now l.u.first l.u.rest l.u.vtv l.initial.a l.row
