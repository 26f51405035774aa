use Rattle.std.proofs.Common.{rules, arith}
use Rattle.accumulator.proofs.Together.{none-placed, term-placed}
use Rattle.accumulator.proofs.words.add_terms.Goals as goal

pub loop-i-init : goal.loop-i-init
loop-i-init g c = none-placed _ _ _ (record { all = c.told-words; each = c.fits-words })

pub loop-i-preserved : goal.loop-i-preserved
loop-i-preserved g c = term-placed _ _ _ _ _ _ _ _ _ c.loop-i-test.true (search rules) (omega arith) c.step.ensures c.loop-i.invariant
