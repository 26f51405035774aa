use borrow.Author.Rules.{rules}
use Rattle.least_norm.proofs.Steps.{less_rows-start, less_rows_again}
use Rattle.least_norm.proofs.columns.less_rows.Goals as goal

pub loop-row-init : goal.loop-row-init
loop-row-init g c = search (less_rows-start, rules)

pub loop-row-preserved : goal.loop-row-preserved
loop-row-preserved g c = search (less_rows_again, rules)
