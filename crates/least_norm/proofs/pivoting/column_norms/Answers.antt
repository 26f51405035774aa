use borrow.Author.Rules.{rules}
use Rattle.least_norm.proofs.Steps.{squares-start, squares_again}
use Rattle.least_norm.proofs.pivoting.column_norms.Goals as goal

pub loop-row-init : goal.loop-row-init
loop-row-init g c = search (squares-start, rules)

pub loop-row-preserved : goal.loop-row-preserved
loop-row-preserved g c = search (squares_again, rules)
