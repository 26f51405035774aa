use Rattle.std.proofs.Common.{take}
use Rattle.printer.specs.Pages.{Printed}
use Rattle.printer.proofs.page.Page.text.Given as goal

abbrev pub invariant-loop-byte : goal.invariant-loop-byte
invariant-loop-byte l = Printed l.initial.self l.self (take l.byte-index l.bytes)
