use native.Mathlib.Omega.{arith}
use Rattle.loops.proofs.Fill.{tab-start, tab_again, tab_done}
use Rattle.least_norm.proofs.count_up.Goals as goal

pub loop-i-init : goal.loop-i-init
loop-i-init c = tab-start _ _

pub loop-i-preserved : goal.loop-i-preserved
loop-i-preserved c = tab_again (λ i. i) _ _ _ c.loop-i.invariant c.loop-i.auto.perm (omega arith)

pub returns : goal.returns
returns c = tab_done _ _ _ _ c.loop-i.invariant c.loop-i.auto.perm c.loop-i.auto.i-end (omega arith)
