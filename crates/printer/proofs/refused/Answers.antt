use Rattle.printer.specs.Output as print
use Rattle.printer.proofs.Pages.{after}
use borrow.Author.Rules.{rules}
use Rattle.printer.proofs.refused.Goals as goal

pub returns : goal.returns
unfolding print.refused
returns c = let p = after (after c.text.ensures c.decimal.ensures) c.put.ensures in search rules
