-- Words of private contracts, here and in the crates above: what they are lent. No promise of a public call stands
-- on them. Definitions only.
use Rattle.std.specs.Prelude.{ℕ, ◌+◌, ◌*◌, cond, Some, List, Float}
use Rattle.std.specs.Float.Ieee.{lt}
use Rattle.floats.specs.Ops.{at, 0ᶠ}
use Rattle.floats.specs.Helpers.{larger}
use Rattle.box_rows.specs.declared.Blocking.{Blocking}
use Rattle.box_rows.specs.declared.RowState.{RowState}
use Rattle.box_rows.specs.Rows.{Problem, size, row}

-- the part of `ratio_row` for one bound
unfoldable pub nearer : ℕ → RowState → Float → Blocking → Blocking
nearer a s ratio r =
    cond (lt ratio r.alpha) (record { alpha = larger ratio 0ᶠ; block = Some (record { row = a; state = s }) }) r

-- the entry in row i and column j of a matrix in rows of n
abbrev pub entry : List Float → ℕ → ℕ → ℕ → Float
entry w n i j = at w (i * n + j)

abbrev pub row_of : Problem → ℕ → List Float
row_of p i = row p.w (size p) i
