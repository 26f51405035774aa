-- What each function of pattern.rt returns, on numbers. Assumes nothing.
use Prim.Native.Nat.{ℕ, suc, ◌+◌, ◌-◌, ◌*◌, ◌/◌, ◌%◌, ◌^◌, ◌≤◌, ◌<◌}
use mathlib.Core.Path.{◌≡◌, sym, ap, ◌∙◌, subst}
use mathlib.Core.Bool.{Bool, true, false, not}
use native.Mathlib.Omega.{arith}
use native.Mathlib.Nat.{pow-succ', mod-eq_of_lt}
use lib.Arith.{le→nltb}
use lib.Dec.{T, ltb}
use lib.Pow.{pow_pos}
use borrow.Author.Tests.{ltb-true, ltb-false}
use lib.Ieee.{binary64, size, round, of_bits, nan_bits}
use lib.Ieee.Bits.{nan_bits_above}
use lib.Ieee.Nearest.{closest}
use Rattle.floats.proofs.SquareRoot.Patterns.{hidden_bit, sign_bit}
use Rattle.nearest.proofs.Halves.{digit-zero, more_than-half, tie}
use Rattle.nearest.proofs.Patterns.{infinity_bits, with-half, rounded-is, overflowed}

-- ---- what is kept of m without its last 1074 + k digits; h has one digit more

twice : (k : ℕ) → 2 * 2 ^ (1073 + k) ≡ 2 ^ (1074 + k)
twice k = let e : suc (1073 + k) ≡ 1074 + k = omega arith in sym (pow-succ' 2 (1073 + k)) ∙ ap (λ (x : ℕ). 2 ^ x) e

module _ (m k h : ℕ) (e : h ≡ m / 2 ^ (1073 + k)) (few : m / 2 ^ (1073 + k) < 18014398509481984) where
  at_cut : (r : ℕ) → r ≡ closest m (2 * 2 ^ (1073 + k)) → r ≡ closest m (2 ^ (1074 + k))
  at_cut r g = g ∙ ap (closest m) (twice k)

  pub kept_down : h % 2 ≡ 0 → (h / 2 ≡ closest m (2 ^ (1074 + k))) × (h / 2 ≤ 9007199254740992)
  kept_down z = (at_cut (h / 2) (ap (λ (x : ℕ). x / 2) e ∙ digit-zero m (2 ^ (1073 + k)) (pow_pos (1073 + k)) (ap (λ (x : ℕ). x % 2) (sym e) ∙ z)), omega arith)

  one : (h % 2 ≡ 0 → ⊥) → m / 2 ^ (1073 + k) % 2 ≡ 1
  one z = ap (λ (x : ℕ). x % 2) (sym e) ∙ single h z
    where
      single : (h : ℕ) → (h % 2 ≡ 0 → ⊥) → h % 2 ≡ 1
      single h z = omega arith

  pub kept_up : (r : Bool) → (h % 2 ≡ 0 → ⊥) → r ≡ ltb 0 (m % 2 ^ (1073 + k)) → r ≡ true → (h / 2 + 1 ≡ closest m (2 ^ (1074 + k))) × (h / 2 + 1 ≤ 9007199254740992)
  kept_up r z g t =
      (at_cut (h / 2 + 1) (ap (λ (x : ℕ). x / 2 + 1) e ∙ more_than-half m (2 ^ (1073 + k)) (pow_pos (1073 + k)) (one z) (ltb-true 0 (m % 2 ^ (1073 + k)) (sym g ∙ t))), omega arith)

  pub kept_even : (r : Bool) → (h % 2 ≡ 0 → ⊥) → r ≡ ltb 0 (m % 2 ^ (1073 + k)) → r ≡ false
      → (h / 2 + h / 2 % 2 ≡ closest m (2 ^ (1074 + k))) × (h / 2 + h / 2 % 2 ≤ 9007199254740992)
  kept_even r z g t =
      (at_cut (h / 2 + h / 2 % 2) (ap (λ (x : ℕ). x / 2 + x / 2 % 2) e ∙ tie m (2 ^ (1073 + k)) (pow_pos (1073 + k)) (one z) none), omega arith)
    where
      is_zero : (x : ℕ) → x ≤ 0 → x ≡ 0
      is_zero x h = omega arith

      none : m % 2 ^ (1073 + k) ≡ 0
      none = is_zero (m % 2 ^ (1073 + k)) (ltb-false 0 (m % 2 ^ (1073 + k)) (sym g ∙ t))

-- ---- the pattern; n is the number's size

module _ (m n : ℕ) (e : n ≡ size m) where
  pub bits-over : 3172 < n → (of_bits binary64 infinity_bits ≡ round binary64 false m (2 ^ 2148)) × (infinity_bits ≤ infinity_bits)
  bits-over h = (overflowed m (subst (λ (x : ℕ). 3172 < x) e h), omega arith)

  pub ask_normal : 1127 < n → m / 2 ^ (1073 + (n - 1127)) < 18014398509481984
  ask_normal h = with-half m (n - 1127) (subst (λ (x : ℕ). x ≤ 1127 + (n - 1127)) e (omega arith))

  pub ask-low : n ≤ 1127 → m / 2 ^ (1073 + 0) < 18014398509481984
  ask-low h = with-half m 0 (subst (λ (x : ℕ). x ≤ 1127 + 0) e (omega arith))

  pub bits_normal : (q : ℕ) → n ≤ 3172 → q ≡ closest m (2 ^ (1074 + (n - 1127))) → q ≤ 9007199254740992
      → (of_bits binary64 ((n - 1127) * hidden_bit + q) ≡ round binary64 false m (2 ^ 2148)) × ((n - 1127) * hidden_bit + q ≤ infinity_bits)
  bits_normal q h g l = (rounded-is m (n - 1127) q (ap (λ (x : ℕ). x - 1127) (sym e)) (omega arith) g, omega arith)

  pub bits-low : (q : ℕ) → n ≤ 1127 → q ≡ closest m (2 ^ (1074 + 0)) → q ≤ 9007199254740992 → (of_bits binary64 q ≡ round binary64 false m (2 ^ 2148)) × (q ≤ infinity_bits)
  bits-low q h g l = (ap (of_bits binary64) nothing ∙ rounded-is m 0 q (ap (λ (x : ℕ). x - 1127) (sym e) ∙ none) (omega arith) g, omega arith)
    where
      nothing : q ≡ 0 * hidden_bit + q
      nothing = omega arith

      none : n - 1127 ≡ 0
      none = omega arith

-- a pattern up to the infinity's is no NaN's
pub no_nan : (b : ℕ) → b ≤ infinity_bits → T (not (nan_bits binary64 b))
no_nan b h =
    let s : b < sign_bit = omega arith in
    subst (λ (t : Bool). T (not t)) (sym (nan_bits_above binary64 b ∙ ap (λ (x : ℕ). ltb infinity_bits x) (mod-eq_of_lt s))) (le→nltb infinity_bits b h)
