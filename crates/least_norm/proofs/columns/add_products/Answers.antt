use borrow.Author.Rules.{rules}
use Rattle.least_norm.proofs.Steps.{products-start, products_again}
use Rattle.least_norm.proofs.columns.add_products.Goals as goal

pub loop-row-init : goal.loop-row-init
loop-row-init g c = search (products-start, rules)

pub loop-row-preserved : goal.loop-row-preserved
loop-row-preserved g c = search (products_again, rules)
