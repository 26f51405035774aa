-- The rows of a box problem, by document 01 and boxed.rs: the problem, a row's state, its update, its natural
-- residual, its sum, and its part in an exact pass and in a ray. Definitions only.
use Rattle.std.specs.Prelude.{ℕ, ◌+◌, ◌*◌, ◌≤◌, ◌≡◌, Bool, false, not, cond, Some, ◌&&◌, ◌||◌, List, [], ◌∷◌, Option, eqb, leb, get_or, length, Float}
use Rattle.std.specs.Float.Ieee.{lt, le, eq}
use Rattle.loops.specs.Loops.{tab}
use Rattle.floats.specs.Ops.{◌⊕◌, ◌⊖◌, ◌⊗◌, ◌⊘◌, at, 0ᶠ, 1e-9, ∞, −∞}
use Rattle.floats.specs.Helpers.{clamp, side, abs, larger, nan_test, is_finite}
use Rattle.floats.specs.declared.Side.{Side}
use Rattle.floats.specs.declared.Clamped.{Clamped}
use Rattle.box_rows.specs.declared.Row.{Row}
use Rattle.box_rows.specs.declared.Blocking.{Blocking}
use Rattle.box_rows.specs.declared.RowState.{RowState}
use Rattle.box_rows.specs.declared.RowState.TheVariants.{AtLo, AtHi}

-- ---- the problem, of at most 32 rows

abbrev pub MAX_ROWS : ℕ
MAX_ROWS = 32

pub record Problem : Type 0 where
  pub w : List Float
  pub u_free : List Float
  pub lo : List Float
  pub hi : List Float
  pub scale : List Float

abbrev pub problem : List Float → List Float → List Float → List Float → List Float → Problem
problem w u_free lo hi scale = record { w = w; u_free = u_free; lo = lo; hi = hi; scale = scale }

-- n
abbrev pub size : Problem → ℕ
size p = length p.u_free

-- the lists of a problem of n rows
abbrev pub Sized : ℕ → List Float → List Float → List Float → List Float → Type 0
Sized n w lo hi scale = (n ≤ MAX_ROWS) × (length w ≡ n * n) × (length lo ≡ n) × (length hi ≡ n) × (length scale ≡ n)

-- whether the lists of a problem fit one another
abbrev pub sized : Problem → Bool
sized p =
    leb (size p) MAX_ROWS && eqb (length p.w) (size p * size p) && eqb (length p.lo) (size p)
    && eqb (length p.hi) (size p) && eqb (length p.scale) (size p)

-- row i of a matrix in rows of n entries: that of column j is the value at place i·n + j
unfoldable pub row : List Float → ℕ → ℕ → List Float
row w n i = tab (λ (j : ℕ). at w (i * n + j)) n

-- ---- states: a byte a row

abbrev pub inside : ℕ
inside = 0

abbrev pub at_lo : ℕ
at_lo = 1

abbrev pub at_hi : ℕ
at_hi = 2

abbrev pub idle : ℕ
idle = 3

abbrev pub state : List ℕ → ℕ → ℕ
state st i = get_or st i 0

abbrev pub acts : List ℕ → ℕ → Bool
acts st i = not (eqb (state st i) idle)

-- a row cannot act if its diagonal is NaN or at most 0
unfoldable pub is_idle : Float → Bool
is_idle d = nan_test d || le d 0ᶠ

-- the state that a multiplier v shows: on a finite bound within 1e-9 of its scale (ON_A_BOUND), the lower one first
unfoldable pub on_bound : Float → Float → Float → Bool
on_bound bound gap s = is_finite bound && le gap (1e-9 ⊗ s)

unfoldable pub state_of : Float → Float → Float → Float → ℕ
state_of lo hi s v = cond (on_bound lo (v ⊖ lo) s) at_lo (cond (on_bound hi (hi ⊖ v) s) at_hi inside)

-- the multiplier of a row in a state: a row on a bound has that bound
abbrev pub placed : Float → Float → ℕ → Float → Float
placed lo hi s v = cond (eqb s at_lo) lo (cond (eqb s at_hi) hi v)

-- whether a row on a bound is pushed inside: u is its row sum
unfoldable pub pushed : ℕ → Float → Bool
pushed s u = cond (eqb s at_lo) (lt u 0ᶠ) (cond (eqb s at_hi) (lt 0ᶠ u) false)

-- ---- a row's sum: u, then + each entry times its multiplier, from the left

unfoldable pub row_sum : List Float → Float → List Float → Float
row_sum [] u nu = u
row_sum (a ∷ r) u [] = u
row_sum (a ∷ r) u (v ∷ nu) = row_sum r (u ⊕ a ⊗ v) nu

-- ---- a row's update: where it puts the multiplier v, the row sum being u and the diagonal d;
-- and how far that is, over the scale s

unfoldable pub update : Float → Float → Float → Float → Float → Float
update v u d lo hi = clamp (v ⊖ u ⊘ d) lo hi

-- the side at which it is stopped, if it is
unfoldable pub update_side : Float → Float → Float → Float → Float → Option Side
update_side v u d lo hi = side (v ⊖ u ⊘ d) lo hi

-- both, of a row by its numbers: where a row's update puts its multiplier, and the side at which it is stopped
pub record Updated (row : Row) (r : Clamped) : Type 0 where
  pub value : r.value ≡ update row.nu row.u row.diagonal row.lo row.hi
  pub side : r.side ≡ update_side row.nu row.u row.diagonal row.lo row.hi

unfoldable pub natural_residual : Float → Float → Float → Float → Float → Float → Float
natural_residual v u d lo hi s = abs (v ⊖ update v u d lo hi) ⊘ s

-- row i of a problem by its numbers, at the multipliers nu
abbrev pub row_at : Problem → List Float → ℕ → Row
row_at p nu i =
    let r = row p.w (size p) i in
    record { nu = at nu i; u = row_sum r (at p.u_free i) nu; diagonal = at r i; lo = at p.lo i; hi = at p.hi i }

-- its natural residual
unfoldable pub residual_at : Problem → List Float → ℕ → Float
residual_at p nu i =
    let r = row p.w (size p) i in
    let u = row_sum r (at p.u_free i) nu in
    natural_residual (at nu i) u (at r i) (at p.lo i) (at p.hi i) (at p.scale i)

-- ---- the ratio test of row a at v, which moves by y: how far the boxes let the rows go, and the row that blocks them

unfoldable pub ratio_row : ℕ → Float → Float → Float → Float → Blocking → Blocking
ratio_row a v y lo hi r =
    let nearer : RowState → Float → Blocking =
    λ (s : RowState) (ratio : Float).
    cond (lt ratio r.alpha) (record { alpha = larger ratio 0ᶠ; block = Some (record { row = a; state = s }) }) r in
    cond (lt 0ᶠ y) (nearer AtHi ((hi ⊖ v) ⊘ y)) (cond (lt y 0ᶠ) (nearer AtLo ((lo ⊖ v) ⊘ y)) r)

-- ---- a row of a ray: how far it moves along its y, over its scale s, and whether it may grow without end along y

unfoldable pub size_of : Float → Float → Float
size_of y s = abs y ⊘ s

unfoldable pub grows : Float → Float → Float → Bool
grows y lo hi = (lt 0ᶠ y && eq hi ∞) || (lt y 0ᶠ && eq lo −∞)
