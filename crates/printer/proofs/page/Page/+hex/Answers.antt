use Rattle.std.proofs.Common.{ap, ◌∙◌, arith, [], ◌∷◌, ◌++◌, ℕ, ◌/◌, ◌-◌}
use Rattle.printer.specs.Output as print
use Rattle.printer.proofs.Laws.{hex-none, hex_more}
use Rattle.printer.proofs.Pages.{after, as_text, nothing_printed}
use Rattle.printer.proofs.page.Page.+hex.Goals as goal

pub returns-then-places-gt0 : goal.returns-then-places-gt0
returns-then-places-gt0 t c =
    as_text (after c.hex.ensures c.put.ensures)
    (ap (λ (d : ℕ). print.hex (c.args.places - 1) (c.args.x / 16) ++ (d ∷ [])) c.digit.ensures ∙ hex_more _ _ c.if-places-gt0.true)

pub returns-else-places-gt0 : goal.returns-else-places-gt0
returns-else-places-gt0 t c = as_text (nothing_printed _) (hex-none _ _ (omega (arith, c.if-places-gt0.false)))
