use borrow.Author.Rules.{rules}
use Rattle.loops.proofs.Turns.{turns-from, turns_again}
use Rattle.least_norm.specs.Private.{reflect_rows}
use Rattle.least_norm.proofs.trapezoid.reflect_rows.Goals as goal

pub loop-row-init : goal.loop-row-init
unfolding reflect_rows
loop-row-init c = turns-from _ _

pub loop-row-preserved : goal.loop-row-preserved
unfolding reflect_rows
loop-row-preserved c = search (turns_again, rules)
