-- The pattern of a rounded magnitude: q units of 2 ^ k smallest values are k * 2 ^ 52 + q. Assumes nothing.
use Prim.Native.Nat.{ℕ, suc, ◌+◌, ◌-◌, ◌*◌, ◌/◌, ◌%◌, ◌^◌, ◌≤◌, ◌<◌, compare}
use mathlib.Core.Path.{◌≡◌, refl, sym, ap, ◌∙◌, subst}
use mathlib.Core.Logic.{◌⊎◌, inl, inr}
use mathlib.Core.Bool.{Bool, true, false, cond}
use native.Mathlib.Omega.{arith}
use native.Mathlib.Nat.{mul-le-mul, eq-or-lt_of_le, eq-zero-or-pos, lt_of_lt_of_le, le_trans, le-div_iff_mul-le, pow-succ'}
use lib.Dec.{T, ltb}
use lib.Pow.{pow_pos, pow_mono, pow-add, shl_lt, shr_lt}
use borrow.Author.Tests.{lt-ltb, le-ltb, ltb-true, ltb-false}
use lib.Ieee.{Float, inf, binary64, size, odd, units, round, of_bits, fits}
use lib.Ieee.Bits.{of_bits-fits}
use lib.Ieee.Digits.{size-lt, size_reaches}
use lib.Ieee.Exact.{HasValue, odd_sign}
use lib.Ieee.Fits.{odd-fits, nearest-le}
use lib.Ieee.Nearest.{closest, nearest-ge}
use Rattle.floats.proofs.Rounding.{value_unique}
use Rattle.floats.proofs.SquareRoot.Patterns.{hidden_bit, normal, subnormal}
use Rattle.nearest.proofs.Units.{round-units}

-- the pattern of the infinity
abbrev pub infinity_bits : ℕ
infinity_bits = 0x7ff0_0000_0000_0000

infinity : of_bits binary64 infinity_bits ≡ inf false
unfolding of_bits
infinity = refl

either : (a b : ℕ) → (a < b) ⊎ (b ≤ a)
either a b = go (ltb a b) refl
  where
    go : (x : Bool) → ltb a b ≡ x → (a < b) ⊎ (b ≤ a)
    go true e = inl (ltb-true a b e)
    go false e = inr (ltb-false a b e)

-- ---- below 2 ^ 1024

in_range : (q k : ℕ) → q < 2 * hidden_bit → k < 2046 → q * 2 ^ k < 2 ^ 2098
in_range q k h g = let e : 53 + k ≤ 2098 = omega arith in lt_of_lt_of_le (shl_lt 53 k h) (pow_mono e)

units_are : (q k : ℕ) → q * 2 ^ k < 2 ^ 2098 → units binary64 false q k ≡ odd 54 false q k 1074
unfolding units
units_are q k h = ap (λ (b : Bool). cond b (odd 54 false q k 1074) (inf false)) (lt-ltb (q * 2 ^ k) (2 ^ 2098) h)

-- two ways to write one value
same : (x : Float) (q k : ℕ) → q < 2 ^ 54 → q ≤ 2 * hidden_bit → q * 2 ^ k < 2 ^ 2098 → T (fits binary64 x) → HasValue x false (q * 2 ^ k) (2 ^ 1074) → x ≡ units binary64 false q k
same x q k w h r f v =
    value_unique binary64 false x (odd 54 false q k 1074) (q * 2 ^ k) (2 ^ 1074) (pow_pos 1074) f (odd-fits binary64 54 false q k w h r) v (odd_sign 54 false q k 1074)
    ∙ sym (units_are q k r)

written : (b q k q' k' : ℕ) → of_bits binary64 b ≡ odd 53 false q' k' 1074 → q' * 2 ^ k' ≡ q * 2 ^ k → HasValue (of_bits binary64 b) false (q * 2 ^ k) (2 ^ 1074)
written b q k q' k' e g =
    subst (λ (x : ℕ). HasValue (of_bits binary64 b) false x (2 ^ 1074)) g
    (subst (λ (x : Float). HasValue x false (q' * 2 ^ k') (2 ^ 1074)) (sym e) (odd_sign 53 false q' k' 1074))

-- ---- each q

normal-units : (q k : ℕ) → hidden_bit ≤ q → q < 2 * hidden_bit → k < 2046 → of_bits binary64 (k * hidden_bit + q) ≡ units binary64 false q k
normal-units q k l h g =
    let b = k * hidden_bit + q in
    let n : suc k < 2047 = omega arith in
    same (of_bits binary64 b) q k (omega arith) (omega arith) (in_range q k h g) (of_bits-fits binary64 b) (written b q k q k (normal k q l h n) refl)

subnormal-units : (q : ℕ) → q < hidden_bit → of_bits binary64 q ≡ units binary64 false q 0
subnormal-units q h =
    let n : q < 2 * hidden_bit = omega arith in
    same (of_bits binary64 q) q 0 (omega arith) (omega arith) (in_range q 0 n (omega arith)) (of_bits-fits binary64 q) (written q q 0 q 0 (subnormal q h) refl)

doubled : (c p t : ℕ) → t ≡ 2 * p → c * t ≡ 2 * c * p
doubled c p t h = rw h (omega arith)

-- rounded up to the next power of 2
carried : (k : ℕ) → k < 2045 → of_bits binary64 (k * hidden_bit + 2 * hidden_bit) ≡ units binary64 false (2 * hidden_bit) k
carried k g =
    let b = k * hidden_bit + 2 * hidden_bit in
    let n : suc (suc k) < 2047 = omega arith in
    let e : b ≡ suc k * hidden_bit + hidden_bit = omega arith in
    let m' : 54 + k ≤ 2098 = omega arith in
    let r : 2 * hidden_bit * 2 ^ k < 2 ^ 2098 = lt_of_lt_of_le (shl_lt 54 k (omega arith)) (pow_mono m') in
    same (of_bits binary64 b) (2 * hidden_bit) k (omega arith) (omega arith) r (of_bits-fits binary64 b)
    (written b (2 * hidden_bit) k hidden_bit (suc k) (ap (of_bits binary64) e ∙ normal (suc k) hidden_bit (omega arith) (omega arith) n) (doubled hidden_bit (2 ^ k) (2 ^ suc k) (pow-succ' 2 k)))

carried_out : of_bits binary64 (2045 * hidden_bit + 2 * hidden_bit) ≡ units binary64 false (2 * hidden_bit) 2045
unfolding of_bits units
carried_out = refl

-- q of at most 53 digits or 2 ^ 53, and 53 digits where digits were dropped
pub pattern-is : (q k : ℕ) → q ≤ 2 * hidden_bit → (0 < k → hidden_bit ≤ q) → k < 2046 → of_bits binary64 (k * hidden_bit + q) ≡ units binary64 false q k
pattern-is q k h f g = whole (eq-or-lt_of_le h)
  where
    top : (k < 2045) ⊎ (2045 ≤ k) → of_bits binary64 (k * hidden_bit + 2 * hidden_bit) ≡ units binary64 false (2 * hidden_bit) k
    top (inl l) = carried k l
    top (inr e) = let k' : k ≡ 2045 = omega arith in rw k' carried_out

    nothing : 0 * hidden_bit + q ≡ q
    nothing = omega arith

    below : (k ≡ 0) ⊎ (0 < k) → (q < hidden_bit) ⊎ (hidden_bit ≤ q) → q < 2 * hidden_bit → of_bits binary64 (k * hidden_bit + q) ≡ units binary64 false q k
    below z (inr l) s = normal-units q k l s g
    below (inr p) (inl l) s = absurd (omega (arith, f p))
    below (inl z) (inl l) s = rw z (ap (of_bits binary64) nothing ∙ subnormal-units q l)

    whole : (q ≡ 2 * hidden_bit) ⊎ (q < 2 * hidden_bit) → of_bits binary64 (k * hidden_bit + q) ≡ units binary64 false q k
    whole (inl e) = rw e (top (either k 2045))
    whole (inr s) = below (eq-zero-or-pos k) (either q hidden_bit) s

-- ---- from 2 ^ 1024 on

pub overflows : (q k : ℕ) → hidden_bit ≤ q → 2046 ≤ k → units binary64 false q k ≡ of_bits binary64 infinity_bits
unfolding units
overflows q k h g =
    ap (λ (b : Bool). cond b (odd 54 false q k 1074) (inf false)) (le-ltb (q * 2 ^ k) (2 ^ 2098) (mul-le-mul h (pow_mono g))) ∙ sym infinity

-- ---- a magnitude m whose last 1074 + k digits are dropped

module _ (m k : ℕ) where
  -- 54 digits at most are left with the half digit, and 53 without
  pub with-half : size m ≤ 1127 + k → m / 2 ^ (1073 + k) < 18014398509481984
  with-half h = let e : size m ≤ 54 + (1073 + k) = omega arith in shr_lt 54 (1073 + k) (lt_of_lt_of_le (size-lt m) (pow_mono e))

  at_most : size m ≤ 1127 + k → closest m (2 ^ (1074 + k)) ≤ 2 * hidden_bit
  at_most h =
      let e : size m ≤ 53 + (1074 + k) = omega arith in
      le_trans (nearest-le (m / 2 ^ (1074 + k)) (compare (m % 2 ^ (1074 + k) * 2) (2 ^ (1074 + k)))) (shr_lt 53 (1074 + k) (lt_of_lt_of_le (size-lt m) (pow_mono e)))

  at_least : 1127 + k ≤ size m → hidden_bit ≤ closest m (2 ^ (1074 + k))
  at_least h =
      let e : 52 + (1074 + k) < size m = omega arith in
      le_trans
      ((le-div_iff_mul-le {k = 2 ^ (1074 + k)} {x = hidden_bit} {y = m} (pow_pos (1074 + k))).1
      (subst (λ (x : ℕ). x ≤ m) (pow-add 2 52 (1074 + k)) (size_reaches m (52 + (1074 + k)) e)))
      (nearest-ge (m / 2 ^ (1074 + k)) (compare (m % 2 ^ (1074 + k) * 2) (2 ^ (1074 + k))))

  rounds : size m - 1127 ≡ k → round binary64 false m (2 ^ 2148) ≡ units binary64 false (closest m (2 ^ (1074 + k))) k
  rounds e = round-units binary64 false m k e

  -- the code's pattern
  pub rounded-is : (q : ℕ) → size m - 1127 ≡ k → k < 2046 → q ≡ closest m (2 ^ (1074 + k)) → of_bits binary64 (k * hidden_bit + q) ≡ round binary64 false m (2 ^ 2148)
  rounded-is q e g h =
      let s : size m ≤ 1127 + k = omega arith in
      ap (λ (x : ℕ). of_bits binary64 (k * hidden_bit + x)) h ∙ pattern-is (closest m (2 ^ (1074 + k))) k (at_most s) (λ p. at_least (large p)) g ∙ sym (rounds e)
    where
      large : 0 < k → 1127 + k ≤ size m
      large p = omega arith

pub overflowed : (m : ℕ) → 3172 < size m → of_bits binary64 infinity_bits ≡ round binary64 false m (2 ^ 2148)
overflowed m h =
    let k = size m - 1127 in
    let l : 1127 + k ≤ size m = omega arith in
    let g : 2046 ≤ k = omega arith in
    sym (rounds m k refl ∙ overflows (closest m (2 ^ (1074 + k))) k (at_least m k l) g)
