use Rattle.std.proofs.Common.{◌≡◌, ◌<◌, ◌≤◌, drop}
use Rattle.accumulator.specs.Accumulators.{value}
use Rattle.nearest.proofs.digits.top.Given as goal

abbrev pub invariant-loop-j : goal.invariant-loop-j
invariant-loop-j l = (0 < l.j) × (l.j ≤ 67) × (value (drop l.j l.m) ≡ 0)
