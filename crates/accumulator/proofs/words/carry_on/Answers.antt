use Rattle.std.proofs.Common.{rules, arith}
use Rattle.accumulator.proofs.Values.{none-carried, carry-carried, none_left, at_top}
use Rattle.accumulator.proofs.words.carry_on.Goals as goal

pub loop-i-init : goal.loop-i-init
loop-i-init g c = none-carried _ _ _ (record { all = c.told-words; each = c.fits-words })

pub returns-then-carry-eq0 : goal.returns-then-carry-eq0
returns-then-carry-eq0 g c = none_left _ _ _ _ _ _ c.if-carry-eq0.true c.loop-i.invariant

pub loop-i-preserved : goal.loop-i-preserved
loop-i-preserved g c = carry-carried _ _ _ _ _ _ _ _ c.loop-i-test.true (omega arith) c.step.ensures c.loop-i.invariant

pub returns : goal.returns
returns g c = at_top _ _ _ _ _ _ (search rules) c.loop-i-test.false c.loop-i.invariant
