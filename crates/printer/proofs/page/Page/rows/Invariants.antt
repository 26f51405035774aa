use Rattle.printer.specs.Output as print
use Rattle.printer.specs.Pages.{Printed}
use Rattle.printer.proofs.page.Page.rows.Given as goal

abbrev pub invariant-loop-i : goal.invariant-loop-i
invariant-loop-i l = Printed l.initial.self l.self (print.row_lines l.states l.nu l.i)
