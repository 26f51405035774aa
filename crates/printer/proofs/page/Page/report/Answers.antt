use Rattle.printer.specs.Output as print
use Rattle.printer.proofs.Pages.{after, as_text}
use Rattle.printer.proofs.page.Page.report.Goals as goal

pub returns : goal.returns
unfolding print.report_line
returns c =
    as_text
    (after
    (after
    (after (after c.text.ensures c.decimal.ensures) (after c.text-2.ensures c.decimal-2.ensures))
    (after (after c.text-3.ensures c.flag.ensures) (after c.text-4.ensures c.flag-2.ensures)))
    (after (after (after c.text-5.ensures c.decimal-3.ensures) (after c.text-6.ensures c.pattern.ensures)) c.put.ensures))
    (rw (c.from.ensures, c.from-2.ensures, c.from-3.ensures))
