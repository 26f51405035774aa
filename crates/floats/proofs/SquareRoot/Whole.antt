-- The whole part of a square root: `whole_root` finds it, and there is only one. Nothing here is about floats. Assumes nothing.
use mathlib.Core.Path.{◌≡◌, subst}
use Prim.Native.Nat.{ℕ, zero, suc, ◌+◌, ◌*◌, ◌/◌, ◌^◌, ◌≤◌, ◌<◌, zero-le}
use native.Mathlib.Nat.{mul-le-mul, lt_of_not-le, not-le_of_lt, lt_of_le_of_lt, pow-succ'}
use native.Mathlib.Omega.{arith}
use mathlib.Core.Bool.{Bool, true, false, not, cond}
use lib.Dec.{T, leb, leb→le, nleb→lt}
use Rattle.floats.specs.Sqrt.{step, whole_root}
use Rattle.floats.specs.Private.{Whole}

-- of two squares, the larger is that of the larger number
pub root-lt : (a b : ℕ) → a * a < b * b → a < b
root-lt a b h = lt_of_not-le (λ (g : b ≤ a). not-le_of_lt h (mul-le-mul g g))

pub whole_unique : (n r s : ℕ) → Whole n r → Whole n s → r ≡ s
whole_unique n r s a b =
    let x : r < s + 1 = root-lt r (s + 1) (lt_of_le_of_lt a.low b.high) in
    let y : s < r + 1 = root-lt s (r + 1) (lt_of_le_of_lt b.low a.high) in
    omega arith

step-whole : (n a : ℕ) → Whole (n / 4) a → Whole n (step n (2 * a))
step-whole n a w = go (leb ((2 * a + 1) * (2 * a + 1)) n) (leb→le ((2 * a + 1) * (2 * a + 1)) n) (nleb→lt ((2 * a + 1) * (2 * a + 1)) n)
  where
    go : (b : Bool) → (T b → (2 * a + 1) * (2 * a + 1) ≤ n) → (T (not b) → n < (2 * a + 1) * (2 * a + 1)) → Whole n (cond b (2 * a + 1) (2 * a))
    go true h k = let g = h tt in record { low = g; high = omega (arith, w.high) }
    go false h k = let g = k tt in record { low = omega (arith, w.low); high = g }

fewer : (n p : ℕ) → n < 4 * p → n / 4 < p
fewer n p h = omega arith

pub root-whole : (d n : ℕ) → n < 4 ^ d → Whole n (whole_root d n)
unfolding whole_root
root-whole zero n h = record { low = zero-le; high = h }
root-whole (suc d) n h = step-whole n (whole_root d (n / 4)) (root-whole d (n / 4) (fewer n (4 ^ d) (subst (λ (x : ℕ). n < x) (pow-succ' 4 d) h)))
