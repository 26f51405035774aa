use Rattle.std.proofs.Common.{◌≡◌}
use Rattle.boxed.specs.Private as private
use Rattle.boxed.proofs.tests.Change.coordinate.Given as goal

abbrev pub invariant-loop-i : goal.invariant-loop-i
invariant-loop-i l = l.s ≡ private.coordinate l.row l.self.nu.now l.self.before.now l.i
