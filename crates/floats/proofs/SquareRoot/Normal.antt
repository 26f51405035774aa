-- What `root_bits` computes, on numbers: a pattern's value as s * 2 ^ e, and the pattern of its root. Assumes nothing.
use mathlib.Core.Path.{◌≡◌, sym, ap, ◌∙◌, subst}
use Prim.Native.Nat.{ℕ, zero, suc, ◌+◌, ◌-◌, ◌*◌, ◌/◌, ◌%◌, ◌^◌, ◌≤◌, ◌<◌}
use native.Mathlib.Nat.{lt_of_le_of_lt, lt_of_lt_of_le, mul_assoc, mul-one, mul-le-mul_right}
use native.Mathlib.Omega.{arith}
use mathlib.Core.Bool.{false}
use lib.Dec.{lit≤}
use lib.Pow.{pow-add, shl_lt}
use lib.Count.{count_leading_zeros, leading_top}
use lib.Ieee.{Float, binary64, odd, of_bits}
use Rattle.floats.specs.Sqrt.{whole_root, nearest_root, sqrt}
use Rattle.floats.specs.Nearest.{units_of}
use Rattle.floats.specs.Private.{Whole, Scaled}
use Rattle.floats.proofs.SquareRoot.Whole.{root-lt, root-whole, whole_unique}
use Rattle.floats.proofs.SquareRoot.Patterns.{hidden_bit, normal, subnormal, units_odd, sqrt_odd, pow_lt_back, nearest-scaled}

-- the pattern of the infinity
abbrev pub infinity_bits : ℕ
infinity_bits = 0x7ff0_0000_0000_0000

pub of_normal : (b : ℕ) → hidden_bit ≤ b → b < infinity_bits → Scaled b (b % hidden_bit + hidden_bit) (b / hidden_bit + 1073)
of_normal b h k =
    let x = b / hidden_bit - 1 in
    let s = b % hidden_bit + hidden_bit in
    let split : b ≡ x * hidden_bit + s = omega arith in
    let lo : hidden_bit ≤ s = omega arith in
    let hi : s < 2 * hidden_bit = omega arith in
    let top : suc x < 2047 = omega arith in
    let S : 0 < s = omega arith in
    let e : x + 1074 ≡ b / hidden_bit + 1073 = omega arith in
    record {
      lo = lo;
      hi = hi;
      e_lo = omega arith;
      e_hi = omega arith;
      val = ap (λ (y : ℕ). units_of (of_bits binary64 y) * 2 ^ 1074) split ∙ ap (λ (y : Float). units_of y * 2 ^ 1074) (normal x s lo hi top) ∙ ap (λ (y : ℕ). y * 2 ^ 1074) (units_odd s x) ∙ mul_assoc s (2 ^ x) (2 ^ 1074) ∙ ap (λ (y : ℕ). s * y) (sym (pow-add 2 x 1074)) ∙ ap (λ (y : ℕ). s * 2 ^ y) e;
      is = ap (λ (y : ℕ). sqrt (of_bits binary64 y)) split ∙ ap sqrt (normal x s lo hi top) ∙ sqrt_odd s x S ∙ ap (λ (y : ℕ). nearest_root (s * 2 ^ y)) e;
    }

-- the zeros before a subnormal's leading digit
pub record Lead (b z : ℕ) : Type 0 where
  pub above : 11 < z
  pub below : z ≤ 63
  pub low : hidden_bit ≤ b * 2 ^ (z - 11)
  pub high : b * 2 ^ (z - 11) < 2 * hidden_bit
  pub is : b * 2 ^ (z - 11) * 2 ^ (1074 - (z - 11)) ≡ b * 2 ^ 1074

pub lead : (b : ℕ) → 0 < b → b < hidden_bit → Lead b (count_leading_zeros 64 b)
lead b p h =
    let z = count_leading_zeros 64 b in
    let t = leading_top 64 b p (lt_of_lt_of_le h (lit≤ tt)) in
    let j = t.0 in
    let n : z + suc j ≡ 64 = t.1 in
    let g : j < 52 = pow_lt_back j 52 (lt_of_le_of_lt t.2 h) in
    let y = z - 11 in
    let a : j + y ≡ 52 = omega arith in
    let a' : suc j + y ≡ 53 = omega arith in
    let q : y + (1074 - y) ≡ 1074 = omega arith in
    record {
      above = omega arith;
      below = omega arith;
      low = subst (λ (k : ℕ). k ≤ b * 2 ^ y) (sym (pow-add 2 j y) ∙ ap (λ (k : ℕ). 2 ^ k) a) (mul-le-mul_right (2 ^ y) t.2);
      high = subst (λ (k : ℕ). b * 2 ^ y < k) (ap (λ (k : ℕ). 2 ^ k) a') (shl_lt (suc j) y t.3);
      is = mul_assoc b (2 ^ y) (2 ^ (1074 - y)) ∙ ap (λ (k : ℕ). b * k) (sym (pow-add 2 y (1074 - y)) ∙ ap (λ (k : ℕ). 2 ^ k) q);
    }

wide : (x : ℕ) → x < 2 * hidden_bit → x % 2 ^ 64 ≡ x
wide x h = omega arith

pub of_subnormal : (b : ℕ) → 0 < b → b < hidden_bit → Scaled b (b * 2 ^ (count_leading_zeros 64 b - 11) % 2 ^ 64) (1074 - (count_leading_zeros 64 b - 11))
of_subnormal b p h =
    let z = count_leading_zeros 64 b in
    let l = lead b p h in
    let e = 1074 - (z - 11) in
    let a = l.above in
    let c = l.below in
    subst (λ (s : ℕ). Scaled b s e) (sym (wide (b * 2 ^ (z - 11)) l.high))
    (record {
      lo = l.low;
      hi = l.high;
      e_lo = omega arith;
      e_hi = omega arith;
      val = ap (λ (y : Float). units_of y * 2 ^ 1074) (subnormal b h) ∙ ap (λ (y : ℕ). y * 2 ^ 1074) (units_odd b 0 ∙ mul-one b) ∙ sym l.is;
      is = ap sqrt (subnormal b h) ∙ sqrt_odd b 0 p ∙ ap nearest_root (sym l.is);
    })

-- ---- the root's pattern

-- s or 2 * s, as r is 0 or 1
pub record Even (s r : ℕ) : Type 0 where
  pub exact : s * 2 ^ r % 2 ^ 64 ≡ s * 2 ^ r
  pub low : hidden_bit ≤ s * 2 ^ r
  pub high : s * 2 ^ r ≤ 2 ^ 54 - 2

too_large : (r : ℕ) → suc (suc r) < 2 → ⊥
too_large r h = omega arith

even : (s r : ℕ) → r < 2 → hidden_bit ≤ s → s < 2 * hidden_bit → Even s r
even s zero h lo hi = record { exact = omega arith; low = omega arith; high = omega arith }
even s (suc zero) h lo hi = record { exact = omega arith; low = omega arith; high = omega arith }
even s (suc (suc r)) h lo hi = absurd (too_large r h)

bit : (e : ℕ) → e % 2 < 2
bit e = omega arith

pub evened : {b s e : ℕ} → Scaled b s e → Even s (e % 2)
evened {b} {s} {e} n = even s (e % 2) (bit e) n.lo n.hi

pub asked : {b s e : ℕ} → Scaled b s e → s * 2 ^ (e % 2) % 2 ^ 64 < 2 ^ 54
asked n = let v = evened n in omega (arith, v.exact, v.high)

-- the root of a number from 2 ^ 106 to 2 ^ 108 - 2 ^ 55 has 54 digits, and is not 2 ^ 54 - 1
pub root_range : (x p : ℕ) → hidden_bit ≤ x → x ≤ 2 ^ 54 - 2 → Whole (x * 2 ^ 54) p → (2 ^ 53 ≤ p) × (p ≤ 2 ^ 54 - 2)
root_range x p lo hi w =
    let a : 2 ^ 53 < p + 1 = root-lt (2 ^ 53) (p + 1) (lt_of_le_of_lt (omega arith) w.high) in
    let b : p < 2 ^ 54 - 1 = root-lt p (2 ^ 54 - 1) (lt_of_le_of_lt w.low (omega arith)) in
    omega arith

pub whole : {b s e : ℕ} (p : ℕ) → Scaled b s e → p * p ≤ s * 2 ^ (e % 2) % 2 ^ 64 * 2 ^ 54 → s * 2 ^ (e % 2) % 2 ^ 64 * 2 ^ 54 < (p + 1) * (p + 1) → Whole (s * 2 ^ (e % 2) * 2 ^ 54) p
whole p n lo hi = subst (λ (x : ℕ). Whole (x * 2 ^ 54) p) (evened n).exact (record { low = lo; high = hi })

module _ {b s e : ℕ} (p : ℕ) (n : Scaled b s e) (w : Whole (s * 2 ^ (e % 2) * 2 ^ 54) p) where
  pub p_range : (2 ^ 53 ≤ p) × (p ≤ 2 ^ 54 - 2)
  p_range = root_range (s * 2 ^ (e % 2)) p (evened n).low (evened n).high w

  is-root : whole_root 54 (s * 2 ^ (e % 2) * 2 ^ 54) ≡ p
  is-root =
      let x = s * 2 ^ (e % 2) * 2 ^ 54 in
      let h = (evened n).high in
      let small : x < 4 ^ 54 = omega arith in
      whole_unique x (whole_root 54 x) p (root-whole 54 x small) w

  pub root-pattern : (of_bits binary64 ((e / 2 - 26) * hidden_bit + (p + 1) / 2) ≡ sqrt (of_bits binary64 b)) × ((e / 2 - 26) * hidden_bit + (p + 1) / 2 < infinity_bits)
  root-pattern =
      let k = e / 2 - 26 in
      let q = (p + 1) / 2 in
      let r = p_range in
      let e_lo = n.e_lo in
      let e_hi = n.e_hi in
      let q-lo : hidden_bit ≤ q = omega arith in
      let q-hi : q < 2 * hidden_bit = omega arith in
      let K : suc k < 2047 = omega arith in
      let E : 54 ≤ e = omega arith in (
        normal k q q-lo q-hi K
            ∙ ap (λ (y : ℕ). odd 53 false ((y + 1) / 2) k 1074) (sym is-root)
            ∙ sym (nearest-scaled s e n.lo n.hi E)
            ∙ sym n.is,
        omega arith,
      )
