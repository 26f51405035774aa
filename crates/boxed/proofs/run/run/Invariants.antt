use Rattle.box_rows.specs.Lent as lent
use Rattle.boxed.specs.Solve as solve
use Rattle.boxed.specs.Private as private
use Rattle.boxed.proofs.Turns.{Reached}
use Rattle.boxed.proofs.run.run.Given as goal

abbrev pub invariant-loop : goal.invariant-loop
invariant-loop l =
    Reached solve.SWEEP_CAP (lent.of l.p) (private.watched l.watch) l.initial.nu l.initial.states l.initial.rows l.initial.work
    l.counter l.nu l.states l.rows l.work l.counts
