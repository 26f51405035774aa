use Rattle.std.proofs.Common.{◌≡◌, ◌≤◌, length}
use Rattle.boxed.specs.Sweep as sweep
use Rattle.boxed.specs.Private as private
use Rattle.boxed.proofs.start.start.Given as goal

abbrev pub invariant-loop-i : goal.invariant-loop-i
invariant-loop-i l = (l.idle ≤ l.i) × (private.started l.nu l.states l.idle ≡ sweep.start l.p.w.now (length l.p.u_free.now) l.p.lo.now l.p.hi.now l.initial.nu l.initial.states l.i)
