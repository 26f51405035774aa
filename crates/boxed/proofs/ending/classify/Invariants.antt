use Rattle.std.proofs.Common.{◌≡◌}
use Rattle.boxed.specs.Sweep as sweep
use Rattle.boxed.proofs.ending.classify.Given as goal

abbrev pub invariant-loop-i : goal.invariant-loop-i
invariant-loop-i l = l.states ≡ sweep.classified l.p.lo.now l.p.hi.now l.p.scale.now l.nu l.initial.states l.i
