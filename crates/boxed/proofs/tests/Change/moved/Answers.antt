use Rattle.loops.proofs.Common.{◌∙◌, length, arith, [], ◌∷◌}
use Rattle.loops.proofs.Turns.{turns_again}
use Rattle.std.proofs.Common.{length-append}
use Rattle.box_rows.proofs.Matrix.{row-part}
use Rattle.boxed.proofs.Rows.{still_within, left_after, row_is, all_read}
use Rattle.boxed.specs.Sweep as sweep
use Rattle.boxed.specs.Private as private
use Rattle.boxed.proofs.tests.Change.moved.Goals as goal

pub loop-row-preserved : goal.loop-row-preserved
unfolding sweep.moved private.coordinate
loop-row-preserved c =
    let w = c.loop-row.invariant in
    let s = c.in-Some.ensures.steps in
    let more = still_within _ _ _ _ w.within w.left _ _ s.1.0 (s.1.1 ∙ w.size) in
    rw (length-append c.loop-row.yielded (c.in-Some.row ∷ []))
    (record {
      size = s.0 ∙ w.size;
      within = more;
      left = left_after _ _ _ _ w.within w.left _ _ s.1.0 (s.1.1 ∙ w.size);
      worst = turns_again _ _ _ _ _ w.worst
          (rw (c.larger-worst.ensures, c.abs.ensures, c.coordinate.ensures, row_is _ _ _ _ w.within w.left _ _ s.1.0 (s.1.1 ∙ w.size), row-part c.args.motion.now (length c.args.self.now.nu.now) (length c.loop-row.yielded) (omega (arith, more))));
    })

pub returns : goal.returns
returns c =
    let w = c.loop-row.invariant in
    rw (all_read _ _ _ _ w.within w.left (rw w.size at c.in-None.ensures.steps.1.0)) w.worst
