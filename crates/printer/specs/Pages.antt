-- Text laid on a page. Definitions only.
use Rattle.std.specs.Prelude.{ℕ, ◌≡◌, List}
use Rattle.printer.specs.Writing.{Wrote}
use Rattle.printer.specs.declared.page.Page.{Page}

-- the page p became q: the text was laid next, in the same buffer
pub record Printed (p q : Page) (text : List ℕ) : Type 0 where
  pub wrote : Wrote p.out.now p.at q.out.now q.at text
  pub same : q.out.ghost_name ≡ p.out.ghost_name
