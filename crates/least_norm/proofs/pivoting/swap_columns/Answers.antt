use borrow.Author.Rules.{rules}
use Rattle.loops.specs.Loops.{swap}
use Rattle.loops.proofs.Turns.{turns-from, turns_again}
use Rattle.least_norm.specs.Private.{swap_columns}
use Rattle.least_norm.proofs.pivoting.swap_columns.Goals as goal

pub loop-row-init : goal.loop-row-init
unfolding swap_columns
loop-row-init c = turns-from _ _

pub loop-row-preserved : goal.loop-row-preserved
unfolding swap_columns swap
loop-row-preserved c = search (turns_again, rules)
