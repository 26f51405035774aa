use Rattle.printer.specs.Output as print
use Rattle.printer.specs.Pages.{Printed}
use Rattle.printer.proofs.page.Page.listed.Given as goal

abbrev pub invariant-loop-row : goal.invariant-loop-row
invariant-loop-row l = Printed l.initial.self l.self (print.listed l.rows l.row-index)
