-- The bit patterns of the positive finite values of binary64, and `sqrt` of the numbers that they stand for. Assumes nothing.
use mathlib.Core.Path.{◌≡◌, refl, sym, ap, ◌∙◌, subst}
use Prim.Native.Nat.{ℕ, zero, suc, ◌+◌, ◌-◌, ◌*◌, ◌/◌, ◌%◌, ◌^◌, ◌≤◌, ◌<◌}
use native.Mathlib.Nat.{lt_of_not-le, lt_of_le_of_lt, lt_of_lt_of_le, lt_irrefl, not-le_of_lt, mod-eq_of_lt, mul_assoc, mul-pos, mul-le-mul_right, mul-div_cancel, pow-succ', zero-mul}
use native.Mathlib.Omega.{arith}
use mathlib.Core.Bool.{Bool, true, false, cond, true≢false}
use lib.IntN.{ℤ}
use lib.Dec.{T, leb, eqb, leb→le, eqb→eq, not_T}
use lib.Pow.{pow_pos, pow_mono, pow-add, shl_lt}
use lib.Ieee.{Float, nan, inf, fin, binary64, up, down, size, odd, of_fields, of_bits}
use lib.Ieee.Bits.{is_false, cond_no}
use lib.Ieee.Digits.{size-lt, size-le}
use lib.Ieee.Fits.{down_pos}
use lib.Ieee.Exact.{HasValue, odd_sign}
use Rattle.floats.specs.Sqrt.{whole_root, unit_count, nearest_root, sqrt}
use Rattle.floats.specs.Nearest.{units_of}

-- 2 ^ 52 and 2 ^ 63
abbrev pub hidden_bit : ℕ
hidden_bit = 4503599627370496

abbrev pub sign_bit : ℕ
sign_bit = 9223372036854775808

-- ---- a pattern's value

of_bits_is : (b : ℕ) → of_bits binary64 b ≡ of_fields binary64 (leb sign_bit b) (b % sign_bit / hidden_bit) (b % hidden_bit)
unfolding of_bits
of_bits_is b = refl

plain : (b : ℕ) → b < sign_bit → of_bits binary64 b ≡ of_fields binary64 false (b / hidden_bit) (b % hidden_bit)
plain b h =
    of_bits_is b
    ∙ ap (λ (s : Bool). of_fields binary64 s (b % sign_bit / hidden_bit) (b % hidden_bit)) (is_false (leb sign_bit b) (not_T (leb sign_bit b) (λ (u : T (leb sign_bit b)). not-le_of_lt h (leb→le sign_bit b u))))
    ∙ ap (λ (x : ℕ). of_fields binary64 false (x / hidden_bit) (b % hidden_bit)) (mod-eq_of_lt h)

differ : (x : ℕ) → suc x < 2047 → suc x ≡ 2047 → ⊥
differ x h e = omega arith

under_ones : (t x : ℕ) → suc x < 2047 → of_fields binary64 false (suc x) t ≡ odd 53 false (hidden_bit + t) x 1074
unfolding of_fields
under_ones t x h = cond_no (eqb (suc x) 2047) (cond (eqb t 0) (inf false) nan) (odd 53 false (hidden_bit + t) x 1074) (not_T (eqb (suc x) 2047) (λ (u : T (eqb (suc x) 2047)). differ x h (eqb→eq (suc x) 2047 u)))

at_zero : (t : ℕ) → of_fields binary64 false 0 t ≡ odd 53 false t 0 1074
unfolding of_fields
at_zero t = refl

-- k * 2 ^ 52 + q for a q of 53 digits: q * 2 ^ k units of the smallest value
pub normal : (k q : ℕ) → hidden_bit ≤ q → q < 2 * hidden_bit → suc k < 2047 → of_bits binary64 (k * hidden_bit + q) ≡ odd 53 false q k 1074
normal k q lo hi h =
    let b = k * hidden_bit + q in
    let a : b < sign_bit = omega arith in
    let x : b / hidden_bit ≡ suc k = omega arith in
    let t : b % hidden_bit ≡ q - hidden_bit = omega arith in
    let y : hidden_bit + (q - hidden_bit) ≡ q = omega arith in
    plain b a ∙ ap (λ (z : ℕ). of_fields binary64 false z (b % hidden_bit)) x ∙ ap (λ (z : ℕ). of_fields binary64 false (suc k) z) t ∙ under_ones (q - hidden_bit) k h ∙ ap (λ (z : ℕ). odd 53 false z k 1074) y

pub subnormal : (t : ℕ) → t < hidden_bit → of_bits binary64 t ≡ odd 53 false t 0 1074
subnormal t h =
    let a : t < sign_bit = omega arith in
    let x : t / hidden_bit ≡ 0 = omega arith in
    let y : t % hidden_bit ≡ t = omega arith in
    plain t a ∙ ap (λ (z : ℕ). of_fields binary64 false z (t % hidden_bit)) x ∙ ap (λ (z : ℕ). of_fields binary64 false 0 z) y ∙ at_zero t

-- ---- `sqrt` of a value, by its size

count_of : (m : ℕ) (e : ℤ) (a : ℕ) → m * up e * 2 ^ 1074 ≡ a * down e → unit_count m e ≡ a
count_of m e a h = ap (λ (x : ℕ). x / down e) h ∙ mul-div_cancel a (down_pos e)

pub units_of_lem : (v : Float) (a : ℕ) → HasValue v false a (2 ^ 1074) → units_of v ≡ a
units_of_lem nan a h = absurd h
units_of_lem (inf s) a h = absurd h
units_of_lem (fin s m e) a h = count_of m e a h.1

pub units_odd : (q k : ℕ) → units_of (odd 53 false q k 1074) ≡ q * 2 ^ k
units_odd q k = units_of_lem (odd 53 false q k 1074) (q * 2 ^ k) (odd_sign 53 false q k 1074)

pub sqrt_of : (v : Float) (a : ℕ) → 0 < a → HasValue v false a (2 ^ 1074) → sqrt v ≡ nearest_root (a * 2 ^ 1074)
unfolding sqrt
sqrt_of nan a A h = absurd h
sqrt_of (inf s) a A h = absurd h
sqrt_of (fin true m e) a A h = absurd (true≢false h.0)
sqrt_of (fin false zero e) a A h = absurd (lt_irrefl 0 (subst (λ (x : ℕ). 0 < x) (sym h.1 ∙ ap (λ (x : ℕ). x * 2 ^ 1074) (zero-mul (up e))) (mul-pos A (down_pos e))))
sqrt_of (fin false (suc m) e) a A h = ap (λ (x : ℕ). nearest_root (x * 2 ^ 1074)) (count_of (suc m) e a h.1)

pub sqrt_odd : (q k : ℕ) → 0 < q → sqrt (odd 53 false q k 1074) ≡ nearest_root (q * 2 ^ (k + 1074))
sqrt_odd q k Q = sqrt_of (odd 53 false q k 1074) (q * 2 ^ k) (mul-pos Q (pow_pos k)) (odd_sign 53 false q k 1074) ∙ ap nearest_root (mul_assoc q (2 ^ k) (2 ^ 1074) ∙ ap (λ (x : ℕ). q * x) (sym (pow-add 2 k 1074)))

-- ---- `nearest_root` of s * 2 ^ e, for an s of 53 digits

pub pow_lt_back : (i p : ℕ) → 2 ^ i < 2 ^ p → i < p
pow_lt_back i p h = lt_of_not-le (λ (g : p ≤ i). lt_irrefl (2 ^ i) (lt_of_lt_of_le h (pow_mono g)))

size_is : (s e : ℕ) → hidden_bit ≤ s → s < 2 * hidden_bit → size (s * 2 ^ e) ≡ 53 + e
size_is s e lo hi =
    let n = s * 2 ^ e in
    let u : n < 2 ^ (53 + e) = shl_lt 53 e hi in
    let l : 2 ^ (52 + e) ≤ n = subst (λ (x : ℕ). x ≤ n) (sym (pow-add 2 52 e)) (mul-le-mul_right (2 ^ e) lo) in
    let a : size n ≤ 53 + e = size-le n (53 + e) u in
    let b : 52 + e < size n = pow_lt_back (52 + e) (size n) (lt_of_le_of_lt l (size-lt n)) in
    omega arith

four : (n : ℕ) → 4 ^ n ≡ 2 ^ (n + n)
four zero = refl
four (suc n) = pow-succ' 4 n ∙ ap (λ (x : ℕ). 4 * x) (four n) ∙ sym (ap (λ (x : ℕ). 2 ^ x) (two_up n) ∙ pow-succ' 2 (suc (n + n)) ∙ ap (λ (x : ℕ). 2 * x) (pow-succ' 2 (n + n)) ∙ both (2 ^ (n + n)))
  where
    two_up : (n : ℕ) → suc n + suc n ≡ suc (suc (n + n))
    two_up n = omega arith

    both : (x : ℕ) → 2 * (2 * x) ≡ 4 * x
    both x = omega arith

-- the exponent that is left, of s * 2 ^ e divided by 4 ^ (k - 1)
split : (e : ℕ) → 54 ≤ e → e ≡ e % 2 + 54 + ((e / 2 - 26 - 1) + (e / 2 - 26 - 1))
split e h = omega arith

pub scaled-is : (s e : ℕ) → 54 ≤ e → s * 2 ^ e ≡ s * 2 ^ (e % 2) * 2 ^ 54 * 4 ^ (e / 2 - 26 - 1)
scaled-is s e h =
    let j = e / 2 - 26 - 1 in
    ap (λ (x : ℕ). s * 2 ^ x) (split e h)
    ∙ ap (λ (x : ℕ). s * x) (pow-add 2 (e % 2 + 54) (j + j) ∙ ap (λ (x : ℕ). x * 2 ^ (j + j)) (pow-add 2 (e % 2) 54))
    ∙ sym (mul_assoc s (2 ^ (e % 2) * 2 ^ 54) (2 ^ (j + j)))
    ∙ ap (λ (x : ℕ). x * 2 ^ (j + j)) (sym (mul_assoc s (2 ^ (e % 2)) (2 ^ 54)))
    ∙ ap (λ (x : ℕ). s * 2 ^ (e % 2) * 2 ^ 54 * x) (sym (four j))

pub four_is : (j : ℕ) → 4 ^ j ≡ 2 ^ j * 2 ^ j
four_is j = four j ∙ pow-add 2 j j

scaled : (s e : ℕ) → 54 ≤ e → s * 2 ^ e / 4 ^ (e / 2 - 26 - 1) ≡ s * 2 ^ (e % 2) * 2 ^ 54
scaled s e h =
    let j = e / 2 - 26 - 1 in
    ap (λ (x : ℕ). x / 4 ^ j) (scaled-is s e h) ∙ mul-div_cancel (s * 2 ^ (e % 2) * 2 ^ 54) (subst (λ (x : ℕ). 0 < x) (sym (four j)) (pow_pos (j + j)))

dropped : (e : ℕ) → (53 + e + 1) / 2 - 53 ≡ e / 2 - 26
dropped e = omega arith

nearest-is : (w k : ℕ) → (size w + 1) / 2 - 53 ≡ k → nearest_root w ≡ odd 53 false ((whole_root 54 (w / 4 ^ (k - 1)) + 1) / 2) k 1074
unfolding nearest_root
nearest-is w k e = ap (λ (x : ℕ). odd 53 false ((whole_root 54 (w / 4 ^ (x - 1)) + 1) / 2) x 1074) e

pub nearest-scaled : (s e : ℕ) → hidden_bit ≤ s → s < 2 * hidden_bit → 54 ≤ e → nearest_root (s * 2 ^ e) ≡ odd 53 false ((whole_root 54 (s * 2 ^ (e % 2) * 2 ^ 54) + 1) / 2) (e / 2 - 26) 1074
nearest-scaled s e lo hi h =
    nearest-is (s * 2 ^ e) (e / 2 - 26) (ap (λ (x : ℕ). (x + 1) / 2 - 53) (size_is s e lo hi) ∙ dropped e)
    ∙ ap (λ (x : ℕ). odd 53 false ((whole_root 54 x + 1) / 2) (e / 2 - 26) 1074) (scaled s e h)
