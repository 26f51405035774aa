use Rattle.std.proofs.Common.{sym, arith}
use mathlib.Core.Path.{◌∙◌}
use Rattle.boxed.proofs.Stopping.{sweep_start, row_stays, row_moves, row_stops}
use Rattle.boxed.proofs.sweep.sweep.Goals as goal
use Rattle.boxed.proofs.sweep.sweep.Goals.{then-states-i-ne-IDLE+then-is_some, then-states-i-ne-IDLE+else-is_some, else-states-i-ne-IDLE}

pub loop-i-init : goal.loop-i-init
loop-i-init c = (omega arith, sweep_start _ _ _)

pub loop-i-preserved : goal.loop-i-preserved
loop-i-preserved c =
    let so_far = c.loop-i.invariant.1 in
    elim c.if-states-i-ne-IDLE.branch [
      | then-states-i-ne-IDLE+then-is_some w ↦ (
        omega (arith, w),
        rw (w.nu-is, w.stopped-is)
            (row_stops _ _ _ _ _ _ so_far w.if-states-i-ne-IDLE.true _ w.numbers.ensures _ w.update-v.ensures (sym w.is_some.ensures ∙ w.if-is_some.true)),
      )
      | then-states-i-ne-IDLE+else-is_some w ↦ (
        omega (arith, w),
        rw (w.nu-is, w.stopped-is)
            (row_moves _ _ _ _ _ _ so_far w.if-states-i-ne-IDLE.true _ w.numbers.ensures _ w.update-v.ensures (sym w.is_some.ensures ∙ w.if-is_some.false)),
      )
      | else-states-i-ne-IDLE w ↦ (omega (arith, w), rw (w.nu-is, w.stopped-is) (row_stays _ _ _ _ _ _ so_far w.if-states-i-ne-IDLE.false))
    ]
