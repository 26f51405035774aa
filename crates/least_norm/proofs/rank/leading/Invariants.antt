use Rattle.std.proofs.Common.{◌≡◌}
use Rattle.least_norm.specs.LeastNorm.{leading}
use Rattle.least_norm.proofs.rank.leading.Given as goal

abbrev pub invariant-loop-i : goal.invariant-loop-i
invariant-loop-i l = l.i ≡ leading l.a.size.n l.a.entries.now l.i
