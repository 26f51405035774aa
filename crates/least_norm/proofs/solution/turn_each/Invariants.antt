use Rattle.std.proofs.Common.{◌≡◌}
use Rattle.least_norm.specs.LeastNorm.{turned}
use Rattle.least_norm.proofs.solution.turn_each.Given as goal

abbrev pub invariant-loop-i : goal.invariant-loop-i
invariant-loop-i l = l.y ≡ turned l.right.size.n l.right.size.m l.right.entries.now l.initial.y l.i
