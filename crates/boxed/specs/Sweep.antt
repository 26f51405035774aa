-- The start of a solve, one sweep, growth, and the tests after a sweep, by document 01 and boxed.rs. Definitions only.
-- The last argument k of a loop is how many turns it has made.
use Rattle.std.specs.Prelude.{ℕ, suc, cond, ◌&&◌, ◌||◌, List, set, length, Float}
use Rattle.std.specs.Float.Ieee.{lt}
use Rattle.loops.specs.Loops.{turns, those}
use Rattle.floats.specs.Ops.{◌⊕◌, ◌⊖◌, ◌⊗◌, ◌⊘◌, at, 0ᶠ, 1e6}
use Rattle.floats.specs.Helpers.{clamp, larger, abs}
use Rattle.box_rows.specs.Rows as box

-- ---- the start: a row that cannot act is Idle, and every multiplier is clamped, that of an Idle row from 0

pub record Start : Type 0 where
  pub nu : List Float
  pub states : List ℕ
  pub idle : ℕ

unfoldable pub start : List Float → ℕ → List Float → List Float → List Float → List ℕ → ℕ → Start
start w n lo hi nu st k =
    turns k (record { nu = nu; states = st; idle = 0 }) λ i s.
    cond (box.is_idle (at (box.row w n i) i))
    (record {
      nu = set s.nu i (clamp 0ᶠ (at lo i) (at hi i));
      states = set s.states i box.idle;
      idle = suc s.idle;
    })
    (record {
      nu = set s.nu i (clamp (at s.nu i) (at lo i) (at hi i));
      states = set s.states i box.inside;
      idle = s.idle;
    })

-- ---- one sweep: each row that acts updates its multiplier, in order

unfoldable pub sweep : List Float → List Float → List Float → List Float → List ℕ → List Float → ℕ → List Float
sweep w u_free lo hi st nu k =
    turns k nu λ i nu.
    let r = box.row w (length u_free) i in
    cond (box.acts st i)
    (set nu i (box.update (at nu i) (box.row_sum r (at u_free i) nu) (at r i) (at lo i) (at hi i)))
    nu

-- ---- the rows that a sweep stops at a bound: those of the first k that act and whose update is clamped when the sweep
-- comes to the row

unfoldable pub stopped : List Float → List Float → List Float → List Float → List ℕ → List Float → ℕ → ℕ
stopped w u_free lo hi st nu k =
    turns k 0 λ i count.
    let v = sweep w u_free lo hi st nu i in
    let r = box.row w (length u_free) i in
    let x = at v i ⊖ box.row_sum r (at u_free i) v ⊘ at r i in
    cond (box.acts st i && (lt x (at lo i) || lt (at hi i) x)) (suc count) count

-- ---- growth: the rows whose multiplier is above a million scales (DIVERGENCE), Idle rows included

abbrev pub grown : List Float → List Float → ℕ → List ℕ
grown nu scale k = those (λ (i : ℕ). lt (1e6 ⊗ at scale i) (abs (at nu i))) k

-- ---- the residual: the largest natural residual over the rows that act, from 0

unfoldable pub residual : box.Problem → List ℕ → List Float → ℕ → Float
residual p st nu k = turns k 0ᶠ λ i worst. cond (box.acts st i) (larger worst (box.residual_at p nu i)) worst

-- ---- the motion of a sweep: the most that one of k coordinates moves, `motion` having a row of values for each

unfoldable pub moved : List Float → List Float → List Float → ℕ → Float
moved motion nu before k =
    turns k 0ᶠ λ c worst.
    let r = box.row motion (length nu) c in
    larger worst (abs (turns (length nu) 0ᶠ λ i s. s ⊕ at r i ⊗ (at nu i ⊖ at before i)))

-- ---- the states that the multipliers show

unfoldable pub classified : List Float → List Float → List Float → List Float → List ℕ → ℕ → List ℕ
classified lo hi scale nu st k =
    turns k st λ i st. cond (box.acts st i) (set st i (box.state_of (at lo i) (at hi i) (at scale i) (at nu i))) st
