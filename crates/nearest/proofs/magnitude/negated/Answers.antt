use Rattle.std.proofs.Common.{rules, arith}
use Rattle.nearest.proofs.Negation.{neg-start, neg_again, neg_done}
use Rattle.nearest.proofs.magnitude.negated.Goals as goal

pub loop-i-init : goal.loop-i-init
loop-i-init c = search (neg-start, rules)

pub loop-i-preserved : goal.loop-i-preserved
loop-i-preserved c = (search rules, neg_again _ _ _ _ _ _ c.loop-i.invariant.0 c.told-words (omega arith) c.loop-i.invariant.1 c.borrowing_sub.ensures)

pub returns : goal.returns
returns c = neg_done _ _ _ _ c.loop-i.invariant.0 c.told-words (omega arith) (omega arith) c.loop-i.invariant.1 c.requires
