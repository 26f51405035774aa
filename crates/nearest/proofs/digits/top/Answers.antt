use Rattle.std.proofs.Common.{arith}
use Rattle.nearest.proofs.Scans.{none_above, none_after, none_from, none_but-first}
use Rattle.nearest.proofs.digits.top.Goals as goal

pub loop-j-init : goal.loop-j-init
loop-j-init c = (omega arith, omega arith, none_above _ c.told-m)

pub loop-j-preserved : goal.loop-j-preserved
loop-j-preserved c = (omega arith, omega arith, none_from _ _ c.loop-j.invariant.0 (omega arith) c.loop-j.invariant.2 c.if-m-j-ne0.false)

pub returns-then-m-j-ne0 : goal.returns-then-m-j-ne0
returns-then-m-j-ne0 c = (omega arith, none_after _ _ c.loop-j.invariant.0 (omega arith) c.loop-j.invariant.2, λ _. omega arith)

pub returns : goal.returns
returns c = (omega arith, none_but-first _ _ c.loop-j.invariant.0 c.loop-j-test.false c.loop-j.invariant.2, λ h. absurd (omega arith))
