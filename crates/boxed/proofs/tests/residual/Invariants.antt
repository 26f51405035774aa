use Rattle.std.proofs.Common.{◌≡◌}
use Rattle.box_rows.specs.Lent as lent
use Rattle.boxed.specs.Sweep as sweep
use Rattle.boxed.proofs.tests.residual.Given as goal

abbrev pub invariant-loop-i : goal.invariant-loop-i
invariant-loop-i l = l.worst ≡ sweep.residual (lent.of l.p) l.states l.nu l.i
