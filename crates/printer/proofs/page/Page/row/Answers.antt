use Rattle.printer.specs.Output as print
use Rattle.printer.proofs.Pages.{after}
use Rattle.printer.proofs.page.Page.row.Goals as goal

pub returns : goal.returns
unfolding print.row_line
returns c =
    after (after (after (after (after (after c.text.ensures c.decimal.ensures) c.put.ensures) c.state.ensures) c.put-2.ensures) c.pattern.ensures)
    c.put-3.ensures
