use Rattle.std.proofs.Common.{◌≤◌}
use Rattle.box_rows.specs.Lent as lent
use Rattle.boxed.proofs.Stopping.{Sweeping}
use Rattle.boxed.proofs.sweep.sweep.Given as goal

abbrev pub invariant-loop-i : goal.invariant-loop-i
invariant-loop-i l = (l.stopped ≤ l.i) × Sweeping (lent.of l.p) l.states l.initial.nu l.i l.stopped l.nu
