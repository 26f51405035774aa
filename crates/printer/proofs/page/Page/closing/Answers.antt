use Rattle.printer.proofs.Pages.{after}
use Rattle.printer.proofs.page.Page.closing.Goals as goal

pub returns : goal.returns
returns c = after (after c.text.ensures c.listed.ensures) c.put.ensures
