use Rattle.std.proofs.Common.{◌≡◌}
use Rattle.least_norm.specs.LeastNorm.{trapezoid, cleared}
use Rattle.least_norm.proofs.trapezoid.clear_rows.Given as goal

abbrev pub invariant-loop-i : goal.invariant-loop-i
invariant-loop-i l = trapezoid l.a l.right ≡ cleared l.top.n l.top.m l.initial.a l.i
