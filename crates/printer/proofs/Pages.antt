-- Laws of text laid on a page: nothing, and one piece after another.
use Prim.Native.Nat.{ℕ, ◌+◌, ◌<◌}
use mathlib.Core.Path.{◌≡◌, refl, ◌∙◌}
use mathlib.Core.List.{List, [], ◌∷◌, ◌++◌}
use lib.ListN.{length, get_or, take}
use lib.Seq.{take-suc}
use native.Mathlib.Numerals.{add-one}
use lib.Ieee.{Float, nan}
use Rattle.loops.specs.Loops.{turns}
use Rattle.printer.specs.Output.{bytes, decimal, row_line, row_lines, listed}
use Rattle.printer.specs.Pages.{Printed}
use Rattle.printer.specs.declared.page.Page.{Page}
use Rattle.printer.proofs.Laws.{nothing-wrote, then}

pub nothing_printed : (p : Page) → Printed p p []
nothing_printed p = record { wrote = nothing-wrote p.out.now p.at p.inside; same = refl }

pub after : {p q r : Page} {s t : List ℕ} → Printed p q s → Printed q r t → Printed p r (s ++ t)
after h k = record { wrote = then h.wrote k.wrote; same = k.same ∙ h.same }

pub as_text : {p q : Page} {s t : List ℕ} → Printed p q s → s ≡ t → Printed p q t
as_text h e = rw e at h

pub byte_more : (w : List ℕ) (i : ℕ) (p q r : Page) → Printed p q (take i w) → i < length w → Printed q r (get_or w i 0 ∷ []) → Printed p r (take (i + 1) w)
byte_more w i p q r h l k = rw (add-one, take-suc w i 0 l) (after h k)

-- ---- the rows and the list, one after another

pub no_rows : (states : List ℕ) (nu : List Float) (p : Page) → Printed p p (row_lines states nu 0)
unfolding row_lines turns
no_rows states nu p = nothing_printed p

pub row_more : (states : List ℕ) (nu : List Float) (i s : ℕ) {p q r : Page} → Printed p q (row_lines states nu i) → Printed q r (row_line i s (get_or nu i nan)) → s ≡ get_or states i 0
    → Printed p r (row_lines states nu (i + 1))
unfolding row_lines turns
row_more states nu i s h k e = rw (add-one, ← e) (after h k)

pub no_listed : (rows : List ℕ) (p : Page) → Printed p p (listed rows 0)
unfolding listed turns
no_listed rows p = nothing_printed p

pub listed_more : (rows : List ℕ) (i : ℕ) {p q r : Page} → Printed p q (listed rows i) → Printed q r (bytes " " ++ decimal (get_or rows i 0)) → Printed p r (listed rows (i + 1))
unfolding listed turns
listed_more rows i h k = rw add-one (after h k)
