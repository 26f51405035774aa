use Rattle.std.proofs.Common.{rules, ap, ◌∙◌}
use Rattle.accumulator.specs.Accumulators.{added}
use Rattle.accumulator.proofs.Signs.{product_is}
use Rattle.accumulator.proofs.term.add_product.Goals as goal

pub returns : goal.returns
returns c = (search rules, c.add.ensures ∙ ap (added _) (product_is _ _ _ _ c.in_ok-x.ensures.1 c.in_ok-y.ensures.1))
