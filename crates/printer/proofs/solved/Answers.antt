use borrow.Author.Rules.{rules}
use Rattle.printer.specs.Output as print
use Rattle.printer.proofs.Pages.{after}
use Rattle.printer.proofs.solved.Goals as goal

pub returns : goal.returns
unfolding print.solved
returns c = let p = after c.text.ensures c.body.ensures in search rules
