use Rattle.printer.proofs.Pages.{after}
use Rattle.printer.proofs.page.Page.opening.Goals as goal

pub returns : goal.returns
returns c = after (after c.text.ensures c.cause.ensures) c.put.ensures
