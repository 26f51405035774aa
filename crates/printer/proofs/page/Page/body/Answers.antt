use Rattle.printer.specs.Output as print
use Rattle.printer.proofs.Pages.{after}
use Rattle.printer.proofs.page.Page.body.Goals as goal

pub returns : goal.returns
unfolding print.body
returns c = after c.report.ensures c.rows.ensures
