use Rattle.std.proofs.Common.{◌+◌, arith, length}
use Rattle.box_rows.proofs.Matrix.{later}
use Rattle.exact_pass.proofs.Running.{marked_new}
use Rattle.exact_pass.proofs.cycles.after_step.Goals as goal

pub returns : goal.returns
returns c =
    let p = c.requires.lent in
    record {
      round = λ s h. marked_new s _ _ _ _ c.store.ensures.part (rw p.states at c.store-2.ensures.part);
      remaining = c.remaining_after-remaining.ensures;
      since = omega arith;
      span = omega arith;
      beyond = later (1088 + length c.args.nu.now) 1120 _ _ (omega arith) c.store.ensures.after;
    }
