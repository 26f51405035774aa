use Rattle.std.proofs.Common.{rules}
use Rattle.nearest.proofs.Negation.{returned_positive, returned_negative, some_negative}
use Rattle.nearest.proofs.nearest.Goals as goal

pub negated-requires : goal.negated-requires
negated-requires c = some_negative _ _ c.is_negative.ensures.0 c.if-is_negative.true

pub returns-then-is_negative : goal.returns-then-is_negative
returns-then-is_negative c = search (returned_negative, rules)

pub returns : goal.returns
returns c = search (returned_positive, rules)
