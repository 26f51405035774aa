use borrow.Author.Rules.{rules}
use Rattle.loops.proofs.Turns.{turns-from, turns_again}
use Rattle.least_norm.specs.LeastNorm.{turned}
use Rattle.least_norm.specs.Private.{turn, row_norm2}
use Rattle.least_norm.proofs.solution.turn_each.Goals as goal

pub loop-i-init : goal.loop-i-init
unfolding turned turn row_norm2
loop-i-init c = turns-from _ _

pub loop-i-preserved : goal.loop-i-preserved
unfolding turned turn row_norm2
loop-i-preserved c = search (turns_again, rules)
