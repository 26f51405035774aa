use Rattle.box_rows.specs.Lent.{of}
use Rattle.exact_pass.proofs.Running.{Going, now}
use Rattle.exact_pass.proofs.steps.run.Given as goal

abbrev pub invariant-loop-m : goal.invariant-loop-m
invariant-loop-m l =
    Going (of l.p) l.most (now l.initial.states l.initial.nu l.initial.rows l.initial.work l.initial.marks l.initial.m)
    (now l.states l.nu l.rows l.work l.marks l.m)

abbrev pub decreases-loop-m : goal.decreases-loop-m
decreases-loop-m l = l.m.remaining
