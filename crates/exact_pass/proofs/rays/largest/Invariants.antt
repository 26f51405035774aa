use Rattle.std.proofs.Common.{◌≡◌}
use Rattle.exact_pass.specs.Private as private
use Rattle.exact_pass.proofs.rays.largest.Given as goal

abbrev pub invariant-loop-a : goal.invariant-loop-a
invariant-loop-a l = l.worst ≡ private.largest l.scale l.states l.motion.values.now l.a
