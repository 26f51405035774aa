use Rattle.std.proofs.Common.{◌≡◌, take}
use Rattle.loops.specs.Loops.{pasted}
use Rattle.boxed.proofs.store.Given as goal

abbrev pub invariant-loop-i : goal.invariant-loop-i
invariant-loop-i l = l.to ≡ pasted (take l.i l.from) l.initial.to
