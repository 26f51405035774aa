use Rattle.std.proofs.Common.{◌+◌, ap, arith, set}
use Rattle.box_rows.proofs.Matrix.{copy_start, copy_again, copy-part, copy-after}
use Rattle.exact_pass.proofs.store.Goals as goal

pub loop-i-init : goal.loop-i-init
loop-i-init g c = copy_start c.args.from.now c.args.a c.args.to.now

pub loop-i-preserved : goal.loop-i-preserved
loop-i-preserved g c =
    copy_again _ _ _ c.index-from-i.result _ _ _ c.loop-i.invariant (omega arith) (omega arith) (ap (set c.loop-i.to (c.args.a + c.loop-i.i)) c.index-from-i.is)

pub returns : goal.returns
returns g c =
    record {
      part = copy-part _ _ _ _ _ c.loop-i.invariant (omega arith) (omega arith) (omega arith);
      after = copy-after _ _ _ _ _ c.loop-i.invariant (omega arith) (omega arith) (omega arith);
    }
