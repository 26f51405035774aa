use Rattle.std.proofs.Common.{arith}
use Rattle.loops.proofs.Fill.{tab-start, tab_again}
use Rattle.boxed.specs.Private as private
use Rattle.boxed.proofs.tests.Change.direction.Goals as goal

pub loop-i-init : goal.loop-i-init
unfolding private.change
loop-i-init c = tab-start _ _

pub loop-i-preserved : goal.loop-i-preserved
unfolding private.change
loop-i-preserved c = tab_again _ _ _ _ c.loop-i.invariant c.loop-i.auto.y (omega arith)
