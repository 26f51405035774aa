use borrow.Author.Rules.{rules}
use Rattle.printer.specs.Output as print
use Rattle.printer.proofs.Pages.{after}
use Rattle.printer.proofs.infeasible.Goals as goal

pub returns : goal.returns
unfolding print.infeasible
returns c = let p = after (after c.opening.ensures c.body.ensures) c.closing.ensures in search rules
