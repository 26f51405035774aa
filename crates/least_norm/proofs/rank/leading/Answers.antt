use borrow.Author.Rules.{rules}
use Rattle.loops.proofs.Turns.{turns-from}
use Rattle.least_norm.specs.LeastNorm.{leading}
use Rattle.least_norm.proofs.Runs.{leading_again, leading-ended}
use Rattle.least_norm.proofs.rank.leading.Goals as goal
use borrow.Author.Tests.{not-true, not-false}

pub loop-i-init : goal.loop-i-init
unfolding leading
loop-i-init c = turns-from _ _

pub returns-then-not-leads : goal.returns-then-not-leads
returns-then-not-leads c = search (leading-ended, not-true, rules)

pub loop-i-preserved : goal.loop-i-preserved
loop-i-preserved c = search (leading_again, not-false, rules)
