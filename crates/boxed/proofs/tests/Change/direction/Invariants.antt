use Rattle.std.proofs.Common.{◌≡◌, ◌++◌, drop}
use Rattle.boxed.specs.Private as private
use Rattle.boxed.proofs.tests.Change.direction.Given as goal

abbrev pub invariant-loop-i : goal.invariant-loop-i
invariant-loop-i l = l.y ≡ private.change l.self.nu.now l.self.before.now l.i ++ drop l.i l.initial.y
