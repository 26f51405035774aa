use Rattle.std.proofs.Common.{ap, ◌∙◌, [], ◌∷◌, ◌++◌, ℕ, ◌/◌}
use Rattle.printer.specs.Output as print
use Rattle.printer.proofs.Laws.{decimal-low, decimal-high}
use Rattle.printer.proofs.Pages.{after, as_text}
use Rattle.printer.proofs.page.Page.+decimal.Goals as goal

pub returns-then-x-lt10 : goal.returns-then-x-lt10
returns-then-x-lt10 t c = as_text c.put.ensures (ap (λ (d : ℕ). d ∷ []) c.digit.ensures ∙ decimal-low _ c.if-x-lt10.true)

pub returns-else-x-lt10 : goal.returns-else-x-lt10
returns-else-x-lt10 t c =
    as_text (after c.decimal.ensures c.put-else-x-lt10.ensures)
    (ap (λ (d : ℕ). print.decimal (c.args.x / 10) ++ (d ∷ [])) c.digit-else-x-lt10.ensures ∙ decimal-high _ c.if-x-lt10.false)
