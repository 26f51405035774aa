use Rattle.printer.proofs.Pages.{after, no_listed, listed_more}
use Rattle.printer.proofs.page.Page.listed.Goals as goal

pub loop-row-init : goal.loop-row-init
loop-row-init c = no_listed _ _

pub loop-row-preserved : goal.loop-row-preserved
loop-row-preserved c = listed_more _ _ c.loop-row.invariant (after c.put.ensures c.decimal.ensures)
