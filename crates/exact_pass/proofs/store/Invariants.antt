use Rattle.std.proofs.Common.{◌≡◌}
use lib.Seq.{paste}
use Rattle.exact_pass.proofs.store.Given as goal

abbrev pub invariant-loop-i : goal.invariant-loop-i
invariant-loop-i g l = l.to ≡ paste l.initial.to l.a l.from l.i
