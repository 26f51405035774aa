-- The root of a rounded square: where x * x neither overflows nor comes near the subnormals, `sqrt (x ⊗ x)` is x without its sign. With x = q * 2 ^ k for a q of 53 digits, the
-- square is off by at most half a unit in its last place, less than q * 2 ^ 2k, so it lies between the squares of the midpoints from x to its neighbours. Assumes nothing.
use mathlib.Core.Path.{◌≡◌, refl, sym, ap, ◌∙◌, subst}
use mathlib.Core.Logic.{inl, inr}
use mathlib.Core.Bool.{Bool, true, false, not, ◌&&◌, true≢false}
use Prim.Native.Nat.{ℕ, zero, suc, ◌+◌, ◌-◌, ◌*◌, ◌/◌, ◌%◌, ◌^◌, ◌≤◌, ◌<◌, zero-le, compare, Ordering}
use native.Mathlib.Nat.{le_of_eq, le_of_lt, lt_of_lt_of_le, lt_of_le_of_lt, mul-le-mul, lt_of_not-le, not-le_of_lt, one-mul, zero-mul, mul-pos, mul-le-mul_right, mul-div_cancel, le_of_mul-le-mul_right, mul-lt-mul_of_pos_right, lt_of_mul-lt-mul_right, div-add-mod', eq-or-lt_of_le, mod-lt}
use native.Mathlib.Omega.{arith}
use lib.Dec.{T, is_le, compare_is_eq, eqb, lt→ltb, leb→le, nleb→lt, eqb→eq, eqb_refl, lit<}
use lib.Arith.{lt_of_le-ne}
use lib.Pow.{pow_pos, pow_mono, pow-lt, pow-add, shl_lt}
use lib.Ieee.{Float, nan, inf, fin, binary64, fits, up, down, size, nearest, round, of_bits, to_bits, sum, add, mul, lt, eq}
use borrow.Author.Tests.{ltb-true, eqb-true}
use lib.Ieee.Bits.{of_bits-to_bits, of_bits-fits}
use lib.Ieee.Fits.{down_pos, mul-fits}
use lib.Ieee.Digits.{size-lt, size_reaches}
use lib.Ieee.Exact.{HasValue, odd_sign, round_exact}
use lib.Ieee.Scale.{finite, grid, round_val, round_same}
use lib.Ieee.Positive.{positive, first_pos, positive_of_value, mul_at}
use lib.Ieee.Nearest.{closest}
use Rattle.floats.specs.Ops.{◌⊕◌, ◌⊗◌, 0ᶠ, Fits}
use Rattle.floats.specs.Helpers.{abs}
use Rattle.floats.specs.Sqrt.{sqrt}
use Rattle.floats.specs.Nearest.{units_of}
use Rattle.floats.proofs.Meaning.{unsigned, abs_is}
use Rattle.floats.proofs.Rank.{ticks, ticks-less}
use Rattle.floats.proofs.Rounding.{add_zero_pp, same-zero}
use Rattle.floats.proofs.SquareRoot.Patterns.{hidden_bit, normal, units_of_lem}
use Rattle.floats.proofs.SquareRoot.Normal.{infinity_bits}
use Rattle.floats.proofs.SquareRoot.Midpoint.{val, val_normal, val_up, val_down, val_down_power, twice, power-side, val_mono, Sides, found, only_sides, bits_in}

-- ---- the nearest multiple of u is at most half of u away

abbrev Cmp : Ordering → ℕ → ℕ → Type 0
Cmp Ordering.lt a b = a < b
Cmp Ordering.eq a b = a ≡ b
Cmp Ordering.gt a b = b < a

cmp : (a b : ℕ) → Cmp (compare a b) a b
cmp a b = go (compare a b) (leb→le a b) (nleb→lt a b) (eqb→eq a b) (λ (e : a ≡ b). subst (λ (x : ℕ). T (eqb a x)) e (eqb_refl a))
  where
    go : (o : Ordering) → (T (is_le o) → a ≤ b) → (T (not (is_le o)) → b < a) → (T (compare_is_eq o) → a ≡ b) → (a ≡ b → T (compare_is_eq o)) → Cmp o a b
    go Ordering.lt h k e n = lt_of_le-ne (h tt) n
    go Ordering.eq h k e n = e tt
    go Ordering.gt h k e n = k tt

abbrev Half : ℕ → ℕ → ℕ → Type 0
Half v n u = (2 * v ≤ 2 * n + u) × (2 * n ≤ 2 * v + u)

half_tie : (w t u n r : ℕ) → w * u + r ≡ n → t ≤ 1 → r * 2 ≡ u → Half ((w + t) * u) n u
half_tie w t u n r e h d = let g : t * u ≤ 1 * u = mul-le-mul_right u h in (omega arith, omega arith)

half-pick : (w u n r : ℕ) (o : Ordering) → w * u + r ≡ n → r < u → Cmp o (r * 2) u → Half (nearest w o * u) n u
half-pick w u n r Ordering.lt e l d = (omega arith, omega arith)
half-pick w u n r Ordering.eq e l d = let t : w % 2 ≤ 1 = omega arith in half_tie w (w % 2) u n r e t d
half-pick w u n r Ordering.gt e l d = (omega arith, omega arith)

half : (n u : ℕ) → 0 < u → Half (closest n u * u) n u
half n u U = half-pick (n / u) u n (n % u) (compare (n % u * 2) u) (div-add-mod' n u) (mod-lt n U) (cmp (n % u * 2) u)

-- ---- for a v that is half of p at most away from q * q * t, where p has 52 digits less than q * q * t

less-half : (h r t p : ℕ) → h ≤ r + 1 → r + 1 < 2 * h → 0 < t → h * p ≤ (r + 1) * (r + 1) * t → 2 * p * h < (4 * r + 3) * t * h
less-half h r t p lo hi t_pos k =
    let a : (r + 1 + 1) * ((r + 1) * t) ≤ 2 * h * ((r + 1) * t) = mul-le-mul_right ((r + 1) * t) (omega arith) in
    let b : h * t ≤ (r + 1) * t = mul-le-mul_right t lo in
    let c : 0 < (r + 1) * t = mul-pos (omega arith) t_pos in
    omega arith

low_of : (r t p v : ℕ) → hidden_bit ≤ r + 1 → r + 1 < 2 * hidden_bit → 0 < t → hidden_bit * p ≤ (r + 1) * (r + 1) * t → 2 * ((r + 1) * (r + 1) * t) ≤ 2 * v + p → (r + (r + 1)) * (r + (r + 1)) * t < 4 * v
low_of r t p v lo hi t_pos h k = last (lt_of_mul-lt-mul_right hidden_bit (less-half hidden_bit r t p lo hi t_pos h)) k
  where
    last : 2 * p < (4 * r + 3) * t → 2 * ((r + 1) * (r + 1) * t) ≤ 2 * v + p → (r + (r + 1)) * (r + (r + 1)) * t < 4 * v
    last a k = omega arith

high_of : (q t p v : ℕ) → q < 2 * hidden_bit → 0 < t → hidden_bit * p ≤ q * q * t → 2 * v ≤ 2 * (q * q * t) + p → 4 * v < (q + (q + 1)) * (q + (q + 1)) * t
high_of q t p v hi t_pos h k =
    let a : q * (q * t) ≤ 2 * hidden_bit * (q * t) = mul-le-mul_right (q * t) (omega arith) in
    omega arith

-- ---- a square of n units of 2 ^ -1074, rounded: v units, half of p at most away, where p has 52 digits less than n

pub record Rounded (n v p : ℕ) : Type 0 where
  pub value : HasValue (round binary64 false n (2 ^ 1074)) false v (2 ^ 1074)
  pub digits : hidden_bit * p ≤ n
  pub near : Half v n p

-- with l for 2 ^ 1074
halved : (n l k p : ℕ) → 0 < l → Half k (n * l) (l * p) → (v : ℕ) → k ≡ v * l → Half v n p
halved n l k p L h v e =
    let a : 2 * v * l ≤ (2 * n + p) * l = let x = h.0 in omega arith in
    let b : 2 * n * l ≤ (2 * v + p) * l = let x = h.1 in omega arith in
    (le_of_mul-le-mul_right a L, le_of_mul-le-mul_right b L)

digits_of : (n : ℕ) → hidden_bit ≤ n → hidden_bit * 2 ^ (size n - 53) ≤ n
digits_of n h =
    let a : 53 ≤ size n = enough n h in
    let b : 52 + (size n - 53) < size n = omega arith in
    subst (λ (x : ℕ). x ≤ n) (pow-add 2 52 (size n - 53)) (size_reaches n (52 + (size n - 53)) b)
  where
    enough : (n : ℕ) → hidden_bit ≤ n → 53 ≤ size n
    enough n h = lt_of_not-le (λ (g : size n ≤ 52). not-le_of_lt (lt_of_lt_of_le (size-lt n) (pow_mono g)) h)

-- n * 2 ^ 1074 / 2 ^ 1074 is n
rounded_by : (n l : ℕ) → 0 < l → hidden_bit ≤ n → (v : ℕ) × Half v n (2 ^ (size n - 53)) × (v ≡ closest (n * l) (l * 2 ^ (size n - 53)) * 2 ^ (size n - 53))
rounded_by n l L h =
    let p = 2 ^ (size n - 53) in
    let c = closest (n * l) (l * p) in
    let e : c * (l * p) ≡ c * p * l = omega arith in
    (c * p, halved n l (c * (l * p)) p L (half (n * l) (l * p) (mul-pos L (pow_pos (size n - 53)))) (c * p) e, refl)

grid-is : (n : ℕ) → grid binary64 n (2 ^ 1074) ≡ closest (n * 2 ^ 1074) (2 ^ 1074 * 2 ^ (size n - 53)) * 2 ^ (size n - 53)
grid-is n = ap (λ (x : ℕ). closest (n * 2 ^ 1074) (2 ^ 1074 * 2 ^ (size x - 53)) * 2 ^ (size x - 53)) (mul-div_cancel n (pow_pos 1074))

-- at most twice n
under : (n v p m : ℕ) → hidden_bit * p ≤ n → Half v n p → 2 * n < m → v < m
under n v p m h k l = let x = k.0 in omega arith

pub rounded : (n : ℕ) → hidden_bit ≤ n → 2 * n < 2 ^ 2098 → (v : ℕ) × (p : ℕ) × Rounded n v p
rounded n h l =
    let p = 2 ^ (size n - 53) in
    let z = rounded_by n (2 ^ 1074) (pow_pos 1074) h in
    let v = z.0 in
    let g : v ≡ grid binary64 n (2 ^ 1074) = z.2 ∙ sym (grid-is n) in
    let d = digits_of n h in
    let s = subst (λ (x : ℕ). x < 2 ^ 2098) g (under n v p (2 ^ 2098) d z.1 l) in
    (v, p, record { value = subst (λ (x : ℕ). HasValue (round binary64 false n (2 ^ 1074)) false x (2 ^ 1074)) (sym g) (round_val binary64 n (2 ^ 1074) s); digits = d; near = z.1 })

-- ---- from units of the square to the midpoints' squares, with e for 2 ^ k and l for 2 ^ 1074

scale-high : (v l q e t : ℕ) → 0 < l → e * e ≡ t * l → 4 * v < (q + (q + 1)) * (q + (q + 1)) * t → 4 * (v * l) < (q * e + (q + 1) * e) * (q * e + (q + 1) * e)
scale-high v l q e t L h k =
    let a : 4 * v * l < (q + (q + 1)) * (q + (q + 1)) * t * l = mul-lt-mul_of_pos_right k L in
    let b : (q + (q + 1)) * (q + (q + 1)) * (e * e) ≡ (q + (q + 1)) * (q + (q + 1)) * (t * l) = ap (λ (x : ℕ). (q + (q + 1)) * (q + (q + 1)) * x) h in
    omega arith

scale-low : (v l r e t : ℕ) → 0 < l → e * e ≡ t * l → (r + (r + 1)) * (r + (r + 1)) * t < 4 * v → (r * e + (r + 1) * e) * (r * e + (r + 1) * e) < 4 * (v * l)
scale-low v l r e t L h k =
    let a : (r + (r + 1)) * (r + (r + 1)) * t * l < 4 * v * l = mul-lt-mul_of_pos_right k L in
    let b : (r + (r + 1)) * (r + (r + 1)) * (e * e) ≡ (r + (r + 1)) * (r + (r + 1)) * (t * l) = ap (λ (x : ℕ). (r + (r + 1)) * (r + (r + 1)) * x) h in
    omega arith

-- a power of two: its square is exact
scale_power : (h l e u t : ℕ) → e ≡ 2 * u → e * e ≡ t * l → h * h * 4 * (u * u) ≡ h * h * t * l
scale_power h l e u t d k =
    let a : e * e ≡ 4 * (u * u) = rw d (omega arith) in
    let b : h * h * (t * l) ≡ h * h * (4 * (u * u)) = ap (λ (x : ℕ). h * h * x) (sym k ∙ a) in
    omega arith

squared : (q e t l : ℕ) → e * e ≡ t * l → q * e * (q * e) * l ≡ q * q * t * (l * l)
squared q e t l h = let b : q * q * l * (e * e) ≡ q * q * l * (t * l) = ap (λ (x : ℕ). q * q * l * x) h in omega arith

-- x is the root of its square
abbrev Root : Float → Type 0
Root x = T (positive (x ⊗ x)) × (sqrt (x ⊗ x) ≡ x)

module _ (k q : ℕ) (lo : hidden_bit ≤ q) (hi : q < 2 * hidden_bit) (k-lo : 537 ≤ k) (k-hi : k ≤ 1500) where
  abbrev n : ℕ
  n = q * q * (2 ^ (k - 537) * 2 ^ (k - 537))

  abbrev x : Float
  x = of_bits binary64 (k * hidden_bit + q)

  t_pos : 0 < 2 ^ (k - 537) * 2 ^ (k - 537)
  t_pos = mul-pos (pow_pos (k - 537)) (pow_pos (k - 537))

  t-is : 2 ^ k * 2 ^ k ≡ 2 ^ (k - 537) * 2 ^ (k - 537) * 2 ^ 1074
  t-is = let e : k ≡ k - 537 + 537 = omega arith in split (2 ^ k) (2 ^ (k - 537)) (2 ^ 537) (2 ^ 1074) (ap (λ (y : ℕ). 2 ^ y) e ∙ pow-add 2 (k - 537) 537) (sym (pow-add 2 537 537))
    where
      split : (a b c d : ℕ) → a ≡ b * c → c * c ≡ d → a * a ≡ b * b * d
      split a b c d p s = let y : b * b * (c * c) ≡ b * b * d = ap (λ (y : ℕ). b * b * y) s in rw p (omega arith)

  n-lo : hidden_bit ≤ n
  n-lo = go (2 ^ (k - 537) * 2 ^ (k - 537)) t_pos
    where
      go : (t : ℕ) → 0 < t → hidden_bit ≤ q * q * t
      go t T = let a : 1 * q ≤ q * q = mul-le-mul_right q (omega arith) in let b : 1 * (q * q) ≤ t * (q * q) = mul-le-mul_right (q * q) T in omega arith

  n-hi : 2 * n < 2 ^ 2098
  n-hi =
      let a : q * 2 ^ (k - 537) ≤ 2 ^ (53 + (k - 537)) = le_of_lt (shl_lt 53 (k - 537) hi) in
      let b = mul-le-mul a a in
      let c : 1 + (53 + (k - 537) + (53 + (k - 537))) < 2098 = omega arith in
      go (2 ^ (k - 537)) (2 ^ (53 + (k - 537))) (2 ^ (1 + (53 + (k - 537) + (53 + (k - 537))))) b
      (pow-add 2 1 (53 + (k - 537) + (53 + (k - 537))) ∙ ap (λ (y : ℕ). 2 * y) (pow-add 2 (53 + (k - 537)) (53 + (k - 537)))) (pow-lt c)
    where
      go : (u y z : ℕ) → q * u * (q * u) ≤ y * y → z ≡ 2 * (y * y) → z < 2 ^ 2098 → 2 * (q * q * (u * u)) < 2 ^ 2098
      go u y z b e l = lt_of_le_of_lt (let w : 2 * (q * q * (u * u)) ≤ z = omega arith in w) l

  x-value : HasValue x false (q * 2 ^ k) (2 ^ 1074)
  x-value = let m : suc k < 2047 = omega arith in subst (λ (y : Float). HasValue y false (q * 2 ^ k) (2 ^ 1074)) (sym (normal k q lo hi m)) (odd_sign 53 false q k 1074)

  x_positive : T (positive x)
  x_positive = let Q : 0 < q = omega arith in positive_of_value x (q * 2 ^ k) (2 ^ 1074) x-value (mul-pos Q (pow_pos k))

  square-is : x ⊗ x ≡ round binary64 false n (2 ^ 1074)
  square-is =
      mul_at binary64 x x (q * 2 ^ k) (2 ^ 1074) (q * 2 ^ k) (2 ^ 1074) x_positive x_positive (pow_pos 1074) (pow_pos 1074) x-value x-value
      ∙ round_same binary64 false (q * 2 ^ k * (q * 2 ^ k)) (2 ^ 1074 * 2 ^ 1074) n (2 ^ 1074) (mul-pos (pow_pos 1074) (pow_pos 1074)) (pow_pos 1074) (squared q (2 ^ k) (2 ^ (k - 537) * 2 ^ (k - 537)) (2 ^ 1074) t-is)

  here : val (k * hidden_bit + q) ≡ q * 2 ^ k
  here = let m : suc k < 2047 = omega arith in val_normal k q lo hi m

  high-side : (v p : ℕ) → Rounded n v p → 4 * (v * 2 ^ 1074) < (val (k * hidden_bit + q) + val (k * hidden_bit + q + 1)) * (val (k * hidden_bit + q) + val (k * hidden_bit + q + 1))
  high-side v p r =
      let m : k * hidden_bit + q + 1 < infinity_bits = omega arith in
      subst (λ (y : ℕ). 4 * (v * 2 ^ 1074) < (y + val (k * hidden_bit + q + 1)) * (y + val (k * hidden_bit + q + 1))) (sym here)
      (subst (λ (y : ℕ). 4 * (v * 2 ^ 1074) < (q * 2 ^ k + y) * (q * 2 ^ k + y)) (sym (val_up k q lo hi m))
      (scale-high v (2 ^ 1074) q (2 ^ k) (2 ^ (k - 537) * 2 ^ (k - 537)) (pow_pos 1074) t-is (high_of q (2 ^ (k - 537) * 2 ^ (k - 537)) p v hi t_pos r.digits r.near.0)))

  -- the square of a power of two is exact
  exact : hidden_bit ≡ q → HasValue (round binary64 false n (2 ^ 1074)) false n (2 ^ 1074)
  exact e =
      let i = 52 + (k - 537) in
      let s : i + i < 2098 = omega arith in
      let g : n ≡ 2 ^ (i + i) = go (2 ^ (k - 537)) (2 ^ i) (pow-add 2 52 (k - 537)) ∙ sym (pow-add 2 i i) in
      round_exact binary64 false n (2 ^ 1074) 1 (i + i) (pow_pos 1074) (lit< tt) (subst (λ (y : ℕ). y < 2 ^ 2098) (sym (one-mul (2 ^ (i + i)))) (pow-lt s)) (ap (λ (y : ℕ). y * 2 ^ 1074) (g ∙ sym (one-mul (2 ^ (i + i)))))
    where
      go : (u y : ℕ) → y ≡ hidden_bit * u → q * q * (u * u) ≡ y * y
      go u y d = rw (sym e, d) (omega arith)

  low_power : (v p : ℕ) → Rounded n v p → hidden_bit ≡ q → (val (k * hidden_bit + q - 1) + val (k * hidden_bit + q)) * (val (k * hidden_bit + q - 1) + val (k * hidden_bit + q)) < 4 * (v * 2 ^ 1074)
  low_power v p r e =
      let i = k - 1 in
      let d : k ≡ suc i = omega arith in
      let m : suc (suc i) < 2047 = omega arith in
      let w : 2 ^ k ≡ 2 * 2 ^ i = ap (λ (y : ℕ). 2 ^ y) d ∙ twice i in
      let a : val (k * hidden_bit + q - 1) ≡ (2 * hidden_bit - 1) * 2 ^ i = ap (λ (y : ℕ). val (k * hidden_bit + y - 1)) (sym e) ∙ ap (λ (y : ℕ). val (y * hidden_bit + hidden_bit - 1)) d ∙ val_down_power i m in
      let b : val (k * hidden_bit + q) ≡ hidden_bit * (2 * 2 ^ i) = here ∙ ap (λ (y : ℕ). y * 2 ^ k) (sym e) ∙ ap (λ (y : ℕ). hidden_bit * y) w in
      let f : v ≡ n = sym (units_of_lem (round binary64 false n (2 ^ 1074)) v r.value) ∙ units_of_lem (round binary64 false n (2 ^ 1074)) n (exact e) in
      let s : hidden_bit * hidden_bit * 4 * (2 ^ i * 2 ^ i) ≡ v * 2 ^ 1074 =
      scale_power hidden_bit (2 ^ 1074) (2 ^ k) (2 ^ i) (2 ^ (k - 537) * 2 ^ (k - 537)) w t-is ∙ ap (λ (y : ℕ). y * y * (2 ^ (k - 537) * 2 ^ (k - 537)) * 2 ^ 1074) e ∙ ap (λ (y : ℕ). y * 2 ^ 1074) (sym f) in
      subst (λ (y : ℕ). (y + val (k * hidden_bit + q)) * (y + val (k * hidden_bit + q)) < 4 * (v * 2 ^ 1074)) (sym a)
      (subst (λ (y : ℕ). ((2 * hidden_bit - 1) * 2 ^ i + y) * ((2 * hidden_bit - 1) * 2 ^ i + y) < 4 * (v * 2 ^ 1074)) (sym b)
      (subst (λ (y : ℕ). ((2 * hidden_bit - 1) * 2 ^ i + hidden_bit * (2 * 2 ^ i)) * ((2 * hidden_bit - 1) * 2 ^ i + hidden_bit * (2 * 2 ^ i)) < 4 * y) s
      (power-side (hidden_bit * hidden_bit * 4) (2 ^ i) (hidden_bit - 1) (pow_pos i) (le_of_eq refl))))

  low_other : (v p : ℕ) → Rounded n v p → hidden_bit < q → (val (k * hidden_bit + q - 1) + val (k * hidden_bit + q)) * (val (k * hidden_bit + q - 1) + val (k * hidden_bit + q)) < 4 * (v * 2 ^ 1074)
  low_other v p r l =
      let m : suc k < 2047 = omega arith in
      let f : q ≡ q - 1 + 1 = omega arith in
      let b : val (k * hidden_bit + q) ≡ (q - 1 + 1) * 2 ^ k = here ∙ ap (λ (y : ℕ). y * 2 ^ k) f in
      subst (λ (y : ℕ). (y + val (k * hidden_bit + q)) * (y + val (k * hidden_bit + q)) < 4 * (v * 2 ^ 1074)) (sym (val_down k q l hi m))
      (subst (λ (y : ℕ). ((q - 1) * 2 ^ k + y) * ((q - 1) * 2 ^ k + y) < 4 * (v * 2 ^ 1074)) (sym b)
      (scale-low v (2 ^ 1074) (q - 1) (2 ^ k) (2 ^ (k - 537) * 2 ^ (k - 537)) (pow_pos 1074) t-is (down (2 ^ (k - 537) * 2 ^ (k - 537)) t_pos (q - 1) f r.digits r.near.1)))
    where
      down : (t : ℕ) → 0 < t → (s : ℕ) → q ≡ s + 1 → hidden_bit * p ≤ q * q * t → 2 * (q * q * t) ≤ 2 * v + p → (s + (s + 1)) * (s + (s + 1)) * t < 4 * v
      down t T s e c d = low_of s t p v (subst (λ (y : ℕ). hidden_bit ≤ y) e lo) (subst (λ (y : ℕ). y < 2 * hidden_bit) e hi) T (subst (λ (y : ℕ). hidden_bit * p ≤ y * y * t) e c) (subst (λ (y : ℕ). 2 * (y * y * t) ≤ 2 * v + p) e d)

  sides : (v p : ℕ) → Rounded n v p → Sides (v * 2 ^ 1074) (k * hidden_bit + q)
  sides v p r = (elim (eq-or-lt_of_le lo) [ inl e ↦ low_power v p r e | inr l ↦ low_other v p r l ], high-side v p r)

  above-none : (n v p : ℕ) → hidden_bit ≤ n → hidden_bit * p ≤ n → 2 * n ≤ 2 * v + p → 0 < v
  above-none n v p h d e = omega arith

  -- x is the only value that far from its neighbours' midpoints
  root_is : Root x
  root_is =
      let z = rounded n n-lo n-hi in
      let v = z.0 in
      let r = z.2 in
      let w = x ⊗ x in
      let h : HasValue w false v (2 ^ 1074) = subst (λ (y : Float). HasValue y false v (2 ^ 1074)) (sym square-is) r.value in
      let f : T (fits binary64 w) = mul-fits binary64 x x in
      let g = positive_of_value w v (2 ^ 1074) h (above-none n v z.1 n-lo r.digits r.near.1) in
      let i = bits_in w f g in
      let b = to_bits binary64 w in
      let e : of_bits binary64 b ≡ w = of_bits-to_bits binary64 w f in
      let u : v ≡ val b = sym (ap units_of e ∙ units_of_lem w v h) in
      let s = found b i.0 i.1 in
      let c : 0 < k * hidden_bit + q = omega arith in
      let d : k * hidden_bit + q < infinity_bits = omega arith in
      let o = only_sides (val b * 2 ^ 1074) s.0 (k * hidden_bit + q) s.1.pos s.1.fin c d s.1.sides (subst (λ (y : ℕ). Sides (y * 2 ^ 1074) (k * hidden_bit + q)) u (sides v z.1 r)) in
      (g, sym (ap sqrt e) ∙ s.1.is ∙ ap (of_bits binary64) (sym o))

-- ---- the same for an f64 between 1e-140 and 1e140

abbrev pub lowest : Float
lowest = of_bits binary64 0x22DE7C5F127BD87E

abbrev pub highest : Float
highest = of_bits binary64 0x5D00CB70D24B7379

lt-units : (x y : Float) → Fits x → Fits y → T (positive x) → T (positive y) → lt x y ≡ true → units_of x < units_of y
unfolding lt ticks
lt-units nan y f g p r h = absurd p
lt-units (inf s) y f g p r h = absurd p
lt-units (fin true m e) y f g p r h = absurd p
lt-units (fin false m e) nan f g p r h = absurd r
lt-units (fin false m e) (inf t) f g p r h = absurd r
lt-units (fin false m e) (fin true n d) f g p r h = absurd r
lt-units (fin false m e) (fin false n d) f g p r h = ticks-less binary64 false false m n e d f g (ltb-true (m * up e * down d) (n * up d * down e) h)

lt_positive : (x y : Float) → T (positive x) → T (finite y) → lt x y ≡ true → T (positive y)
unfolding lt
lt_positive nan y p f h = absurd p
lt_positive (inf s) y p f h = absurd p
lt_positive (fin true m e) y p f h = absurd p
lt_positive (fin false m e) nan p f h = absurd f
lt_positive (fin false m e) (inf t) p f h = absurd f
lt_positive (fin false m e) (fin true n d) p f h = absurd (true≢false (sym h))
lt_positive (fin false m e) (fin false n d) p f h = lt→ltb 0 n (first_pos n (up d) (first_pos (n * up d) (down e) (lt_of_le_of_lt zero-le (ltb-true (m * up e * down d) (n * up d * down e) h))))

-- what lies between the two is positive, and has a pattern between theirs
between_positive : (x : Float) → lt lowest x ≡ true → lt x highest ≡ true → T (positive x)
unfolding lt of_bits
between_positive nan h k = absurd (true≢false (sym h))
between_positive (inf true) h k = absurd (true≢false (sym h))
between_positive (inf false) h k = absurd (true≢false (sym k))
between_positive (fin s m e) h k = lt_positive lowest (fin s m e) tt tt h

pattern_of : (x : Float) → Fits x → T (positive x) → (a : ℕ) → a < infinity_bits → units_of (of_bits binary64 a) < units_of x → a < to_bits binary64 x
pattern_of x f p a A h =
    let b = to_bits binary64 x in
    let e : of_bits binary64 b ≡ x = of_bits-to_bits binary64 x f in
    lt_of_not-le (λ (g : b ≤ a). not-le_of_lt (subst (λ (y : Float). val a < units_of y) (sym e) h) (val_mono b a g A))

pattern_under : (x : Float) → Fits x → T (positive x) → (a : ℕ) → units_of x < units_of (of_bits binary64 a) → to_bits binary64 x < a
pattern_under x f p a h =
    let b = to_bits binary64 x in
    let e : of_bits binary64 b ≡ x = of_bits-to_bits binary64 x f in
    lt_of_not-le (λ (g : a ≤ b). not-le_of_lt (subst (λ (y : Float). units_of y < val a) (sym e) h) (val_mono a b g (bits_in x f p).1))

root-between : (x : Float) → Fits x → lt lowest x ≡ true → lt x highest ≡ true → Root x
root-between x f h k =
    let p = between_positive x h k in
    let a = pattern_of x f p 0x22DE7C5F127BD87E (lit< tt) (lt-units lowest x (of_bits-fits binary64 0x22DE7C5F127BD87E) f (unfold of_bits in tt) p h) in
    let b = pattern_under x f p 0x5D00CB70D24B7379 (lt-units x highest f (of_bits-fits binary64 0x5D00CB70D24B7379) p (unfold of_bits in tt) k) in
    at-pattern (to_bits binary64 x) a b x (of_bits-to_bits binary64 x f)
  where
    at-pattern : (c : ℕ) → 0x22DE7C5F127BD87E < c → c < 0x5D00CB70D24B7379 → (x : Float) → of_bits binary64 c ≡ x → Root x
    at-pattern c a b x e =
        let k = c / hidden_bit - 1 in
        let q = c % hidden_bit + hidden_bit in
        let d : k * hidden_bit + q ≡ c = omega arith in
        let lo : hidden_bit ≤ q = omega arith in
        let hi : q < 2 * hidden_bit = omega arith in
        let k-lo : 537 ≤ k = omega arith in
        let k-hi : k ≤ 1500 = omega arith in
        subst Root (ap (of_bits binary64) d ∙ e) (root_is k q lo hi k-lo k-hi)

-- ---- a zero added to a positive value

zero_of : (n u d : ℕ) (x : Bool) → eqb (n * u * 1) (0 * 1 * d) && x ≡ true → n * u ≡ 0
zero_of n u d x h = let a = eqb-true (n * u * 1) (0 * 1 * d) (and_first (eqb (n * u * 1) (0 * 1 * d)) x h) in omega arith
  where
    and_first : (p q : Bool) → p && q ≡ true → p ≡ true
    and_first true q k = refl
    and_first false q k = k

plus-zero : (w z : Float) → Fits w → T (positive w) → eq z 0ᶠ ≡ true → w ⊕ z ≡ w
unfolding add sum eq of_bits
plus-zero nan z f p h = absurd p
plus-zero (inf s) z f p h = absurd p
plus-zero (fin true m e) z f p h = absurd p
plus-zero (fin false m e) nan f p h = absurd (true≢false (sym h))
plus-zero (fin false m e) (inf t) f p h = absurd (true≢false (sym h))
plus-zero (fin false m e) (fin true n d) f p h =
    add_zero_pp binary64 m e (down d) (n * up d * down e) (down_pos d) (ap (λ (x : ℕ). x * down e) (zero_of n (up d) (down d) _ h) ∙ zero-mul (down e)) f
plus-zero (fin false m e) (fin false n d) f p h =
    same-zero binary64 false m e (down d) (n * up d * down e) (down_pos d) (ap (λ (x : ℕ). x * down e) (zero_of n (up d) (down d) _ h) ∙ zero-mul (down e)) f

-- ---- the law

unsigned-fits : (x : Float) → Fits x → Fits (unsigned x)
unfolding fits
unsigned-fits nan f = f
unsigned-fits (inf s) f = f
unsigned-fits (fin s zero e) f = f
unsigned-fits (fin s (suc m) e) f = f

unsigned-square : (x : Float) → x ⊗ x ≡ unsigned x ⊗ unsigned x
unfolding mul
unsigned-square nan = refl
unsigned-square (inf true) = refl
unsigned-square (inf false) = refl
unsigned-square (fin true m e) = refl
unsigned-square (fin false m e) = refl

-- so the norm of a column whose entries but one are zero is that one without its sign
pub root_of-square : (x z : Float) → Fits x → eq z 0ᶠ ≡ true → lt lowest (abs x) ≡ true → lt (abs x) highest ≡ true → abs x ≡ sqrt (x ⊗ x ⊕ z)
root_of-square x z f h lo hi =
    let a = abs x in
    let e : x ⊗ x ≡ a ⊗ a = unsigned-square x ∙ sym (ap (λ (y : Float). y ⊗ y) (abs_is x f)) in
    let r = root-between a (subst Fits (sym (abs_is x f)) (unsigned-fits x f)) lo hi in
    let s : x ⊗ x ⊕ z ≡ a ⊗ a = ap (λ (y : Float). y ⊕ z) e ∙ plus-zero (a ⊗ a) z (mul-fits binary64 a a) r.0 h in
    sym r.1 ∙ ap sqrt (sym s)
