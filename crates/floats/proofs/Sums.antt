-- The laws of sums: where each starts, its next term and its end, in the form in which `search` applies them, and that sums of the same terms are the same.
use Prim.Native.Nat.{ℕ, suc, ◌+◌, ◌≤◌, ◌<◌}
use mathlib.Core.Path.{◌≡◌, sym, ap}
use native.Mathlib.Omega.{arith}
use native.Mathlib.Numerals.{add-one}
use lib.Ieee.{Float, binary64, add, sub}
use Rattle.loops.proofs.Turns.{between_start, between_step}
use Rattle.loops.proofs.Updates.{between_ext}
use Rattle.floats.specs.Ops.{◌⊕◌, ◌⊖◌}
use Rattle.floats.specs.Sums.{gathered, sum, difference}

module _ (op : Float → Float → Float) (s : Float) (f : ℕ → Float) (lo : ℕ) where
  pub gathered-start : s ≡ gathered op s f lo lo
  unfolding gathered
  gathered-start = sym (between_start _ _ _)

  pub gathered-step : (k : ℕ) → lo ≤ k → gathered op s f lo (suc k) ≡ op (gathered op s f lo k) (f k)
  unfolding gathered
  gathered-step k h = between_step _ _ _ _ h

  pub gathered_done : (k hi : ℕ) (x : Float) → k ≤ hi → hi ≤ k → x ≡ gathered op s f lo k → x ≡ gathered op s f lo hi
  gathered_done k hi x g h e = let q : k ≡ hi = omega arith in rw (← q) e

  pub gathered_ext : (g : ℕ → Float) (hi : ℕ) → lo ≤ hi → ((t : ℕ) → lo ≤ t → t < hi → f t ≡ g t) → gathered op s f lo hi ≡ gathered op s g lo hi
  unfolding gathered
  gathered_ext g hi l h = between_ext s _ _ lo hi l λ t x m u. ap (op x) (h t m u)

-- y is the next term
module _ (s : Float) (f : ℕ → Float) (lo k : ℕ) (x y : Float) (below : lo ≤ k) where
  pub sum_again : x ≡ sum s f lo k → y ≡ f k → x ⊕ y ≡ sum s f lo (k + 1)
  sum_again e g = rw (add-one, gathered-step (add binary64) s f lo k below, e, g)

  pub difference_again : x ≡ difference s f lo k → y ≡ f k → x ⊖ y ≡ difference s f lo (k + 1)
  difference_again e g = rw (add-one, gathered-step (sub binary64) s f lo k below, e, g)
