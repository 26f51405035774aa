-- `sqrt` of a positive finite value is the nearest f64 to the root, and the only one: v lies between the squares of the midpoints to its neighbours, and of no other f64's. Assumes nothing.
use mathlib.Core.Path.{◌≡◌, refl, sym, ap, ◌∙◌, subst}
use mathlib.Core.Logic.{◌⊎◌, inl, inr}
use Prim.Native.Nat.{ℕ, zero, suc, ◌+◌, ◌-◌, ◌*◌, ◌/◌, ◌%◌, ◌^◌, ◌≤◌, ◌<◌, zero-le}
use native.Mathlib.Nat.{le_refl, le_trans, le_of_eq, le_of_lt, lt_of_le_of_lt, lt_of_lt_of_le, lt_irrefl, eq-or-lt_of_le, lt_of_not-le, not-le_of_lt, mul-one, mul-pos, mul-le-mul, mul-le-mul_right, mul-lt-mul_of_pos_right, mul-lt-mul_of_pos_left, pow-succ', add-zero, le-add_right, lt_trans, add-le-add, zero-mul, zero-lt-suc}
use native.Mathlib.Numerals.{add-one-le}
use borrow.Author.Tests.{lt-ltb}
use lib.Ieee.Positive.{positive}
use lib.Ieee.Fits.{up_pos}
use native.Mathlib.Omega.{arith}
use mathlib.Core.Bool.{Bool, true, false, not, true≢false}
use lib.Dec.{T, leb, leb→le, nleb→lt, ltb→lt, lt→ltb, lit<}
use lib.Pow.{pow_pos}
use lib.Ieee.{Float, nan, inf, fin, binary64, of_bits, to_bits, fits, lt, up, down}
use lib.Ieee.Bits.{of_bits-to_bits, to_bits-of_bits, nan_bits_is}
use lib.IntN.{pos}
use Rattle.floats.proofs.Rank.{ticks, zero_is}
use Rattle.floats.proofs.Order.{ticks_pos}
use Rattle.floats.specs.Sqrt.{whole_root, sqrt}
use Rattle.floats.specs.Nearest.{units_of, above, Between}
use Rattle.floats.proofs.SquareRoot.Whole.{root-whole}
use Rattle.floats.specs.Private.{Whole, Scaled}
use Rattle.floats.proofs.SquareRoot.Patterns.{hidden_bit, normal, subnormal, units_odd, scaled-is, four_is}
use Rattle.floats.proofs.SquareRoot.Normal.{infinity_bits, of_normal, of_subnormal, evened, p_range, root-pattern}
use Rattle.floats.proofs.SquareRoot.Branches.{zero_float, finite_bits, bits_pos, inf_only}

-- ---- the units of a pattern

abbrev pub val : ℕ → ℕ
val b = units_of (of_bits binary64 b)

pub val_normal : (k q : ℕ) → hidden_bit ≤ q → q < 2 * hidden_bit → suc k < 2047 → val (k * hidden_bit + q) ≡ q * 2 ^ k
val_normal k q lo hi h = ap units_of (normal k q lo hi h) ∙ units_odd q k

val-low : (b : ℕ) → b < hidden_bit → val b ≡ b
val-low b h = ap units_of (subnormal b h) ∙ units_odd b 0 ∙ mul-one b

pub twice : (k : ℕ) → 2 ^ suc k ≡ 2 * 2 ^ k
twice k = pow-succ' 2 k

-- one pattern up from q * 2 ^ k is (q + 1) * 2 ^ k, with a carry too
pub val_up : (k q : ℕ) → hidden_bit ≤ q → q < 2 * hidden_bit → k * hidden_bit + q + 1 < infinity_bits → val (k * hidden_bit + q + 1) ≡ (q + 1) * 2 ^ k
val_up k q lo hi h = go (leb (2 * hidden_bit) (q + 1)) (leb→le (2 * hidden_bit) (q + 1)) (nleb→lt (2 * hidden_bit) (q + 1))
  where
    go : (t : Bool) → (T t → 2 * hidden_bit ≤ q + 1) → (T (not t) → q + 1 < 2 * hidden_bit) → val (k * hidden_bit + q + 1) ≡ (q + 1) * 2 ^ k
    go true a c =
        let e : q + 1 ≡ 2 * hidden_bit = let x = a tt in omega arith in
        let b : k * hidden_bit + q + 1 ≡ suc k * hidden_bit + hidden_bit = omega arith in
        let s : hidden_bit * (2 * 2 ^ k) ≡ 2 * hidden_bit * 2 ^ k = omega arith in
        let m : suc (suc k) < 2047 = omega arith in
        ap val b ∙ val_normal (suc k) hidden_bit (le_refl hidden_bit) (lit< tt) m ∙ ap (λ (x : ℕ). hidden_bit * x) (twice k) ∙ s ∙ ap (λ (x : ℕ). x * 2 ^ k) (sym e)
    go false a c =
        let b : k * hidden_bit + q + 1 ≡ k * hidden_bit + (q + 1) = omega arith in
        let l : hidden_bit ≤ q + 1 = omega arith in
        let m : suc k < 2047 = omega arith in
        ap val b ∙ val_normal k (q + 1) l (c tt) m

-- one pattern down is (q - 1) * 2 ^ k, but below a power of two the steps are half as wide
pub val_down : (k q : ℕ) → hidden_bit < q → q < 2 * hidden_bit → suc k < 2047 → val (k * hidden_bit + q - 1) ≡ (q - 1) * 2 ^ k
val_down k q lo hi h =
    let b : k * hidden_bit + q - 1 ≡ k * hidden_bit + (q - 1) = omega arith in
    let l : hidden_bit ≤ q - 1 = omega arith in
    let m : q - 1 < 2 * hidden_bit = omega arith in
    ap val b ∙ val_normal k (q - 1) l m h

pub val_down_power : (k : ℕ) → suc (suc k) < 2047 → val (suc k * hidden_bit + hidden_bit - 1) ≡ (2 * hidden_bit - 1) * 2 ^ k
val_down_power k h =
    let b : suc k * hidden_bit + hidden_bit - 1 ≡ k * hidden_bit + (2 * hidden_bit - 1) = omega arith in
    let m : suc k < 2047 = omega arith in
    ap val b ∙ val_normal k (2 * hidden_bit - 1) (omega arith) (lit< tt) m

-- ---- a larger pattern has a larger value

val-step : (b : ℕ) → b + 1 < infinity_bits → val b ≤ val (b + 1)
val-step b h = go (leb hidden_bit b) (leb→le hidden_bit b) (nleb→lt hidden_bit b)
  where
    last : (b : ℕ) → b < hidden_bit → val b ≤ val (b + 1)
    last b l = elim (eq-or-lt_of_le (add-one-le l)) [
      | inl e ↦ le_trans (le_of_eq (val-low b l)) (le_trans (le_of_lt l) (le_of_eq (sym (ap val e ∙ val_normal 0 hidden_bit (le_refl hidden_bit) (lit< tt) (lit< tt)))))
      | inr k ↦ le_trans (le_of_eq (val-low b l)) (le_trans (le-add_right b 1) (le_of_eq (sym (val-low (b + 1) k))))
    ]

    go : (t : Bool) → (T t → hidden_bit ≤ b) → (T (not t) → b < hidden_bit) → val b ≤ val (b + 1)
    go true a c =
        let l = a tt in
        let k = b / hidden_bit - 1 in
        let q = b % hidden_bit + hidden_bit in
        let e : b ≡ k * hidden_bit + q = omega arith in
        let lo : hidden_bit ≤ q = omega arith in
        let hi : q < 2 * hidden_bit = omega arith in
        let m : suc k < 2047 = omega arith in
        let n : k * hidden_bit + q + 1 < infinity_bits = omega arith in
        le_trans (le_of_eq (ap val e ∙ val_normal k q lo hi m)) (le_trans (mul-le-mul_right (2 ^ k) (le-add_right q 1)) (le_of_eq (sym (ap (λ (x : ℕ). val (x + 1)) e ∙ val_up k q lo hi n))))
    go false a c = last b (c tt)

val_mono_by : (d b : ℕ) → b + d < infinity_bits → val b ≤ val (b + d)
val_mono_by zero b h = le_of_eq (ap val (sym (add-zero b)))
val_mono_by (suc d) b h =
    let e : b + suc d ≡ b + d + 1 = omega arith in
    let l : b + d + 1 < infinity_bits = omega arith in
    let m : b + d < infinity_bits = omega arith in
    le_trans (val_mono_by d b m) (le_trans (val-step (b + d) l) (le_of_eq (ap val (sym e))))

pub val_mono : (a b : ℕ) → a ≤ b → b < infinity_bits → val a ≤ val b
val_mono a b h l =
    let e : a + (b - a) ≡ b = omega arith in
    subst (λ (x : ℕ). val a ≤ val x) e (val_mono_by (b - a) a (subst (λ (x : ℕ). x < infinity_bits) (sym e) l))

-- ---- the root's neighbours, with u for 2 ^ (k - 1)

-- twice a midpoint, squared, is above X * u * u four times, for X whose root's whole part is p
up-side : (X p u : ℕ) → 0 < u → X < (p + 1) * (p + 1) → 4 * (X * (u * u)) < ((p + 1) / 2 * (2 * u) + ((p + 1) / 2 + 1) * (2 * u)) * ((p + 1) / 2 * (2 * u) + ((p + 1) / 2 + 1) * (2 * u))
up-side X p u U h =
    let q = (p + 1) / 2 in
    let a : p + 1 ≤ 2 * q + 1 = omega arith in
    let b : X < (2 * q + 1) * (2 * q + 1) = lt_of_lt_of_le h (mul-le-mul a a) in
    let c : X * (u * u) < (2 * q + 1) * (2 * q + 1) * (u * u) = mul-lt-mul_of_pos_right b (mul-pos U U) in
    grow q u X c
  where
    grow : (q u X : ℕ) → X * (u * u) < (2 * q + 1) * (2 * q + 1) * (u * u) → 4 * (X * (u * u)) < (q * (2 * u) + (q + 1) * (2 * u)) * (q * (2 * u) + (q + 1) * (2 * u))
    grow q u X c = omega arith

square-lt : (y z : ℕ) → y < z → y * y < z * z
square-lt y z k =
    let p : 0 < z = lt_of_le_of_lt zero-le k in
    lt_of_le_of_lt (mul-le-mul_right y (le_of_lt k)) (mul-lt-mul_of_pos_left k p)

-- x * 2 ^ 54 is even, so an odd p has a square below it
odd-square : (r x : ℕ) → (2 * r + 1) * (2 * r + 1) ≤ x * 2 ^ 54 → (2 * r + 1) * (2 * r + 1) < x * 2 ^ 54
odd-square r x h = omega arith

down_lt : (x p r : ℕ) → (p + 1) / 2 ≡ r + 1 → p * p ≤ x * 2 ^ 54 → (2 * r + 1) * (2 * r + 1) < x * 2 ^ 54
down_lt x p r e h = go (leb p (2 * r + 1)) (leb→le p (2 * r + 1)) (nleb→lt p (2 * r + 1))
  where
    go : (t : Bool) → (T t → p ≤ 2 * r + 1) → (T (not t) → 2 * r + 1 < p) → (2 * r + 1) * (2 * r + 1) < x * 2 ^ 54
    go true a c =
        let k = a tt in
        let f : p ≡ 2 * r + 1 = omega arith in
        odd-square r x (subst (λ (y : ℕ). y * y ≤ x * 2 ^ 54) f h)
    go false a c = lt_of_lt_of_le (square-lt (2 * r + 1) p (c tt)) h

down-side : (X r u : ℕ) → 0 < u → (2 * r + 1) * (2 * r + 1) < X → (r * (2 * u) + (r + 1) * (2 * u)) * (r * (2 * u) + (r + 1) * (2 * u)) < 4 * (X * (u * u))
down-side X r u U h = let c : (2 * r + 1) * (2 * r + 1) * (u * u) < X * (u * u) = mul-lt-mul_of_pos_right h (mul-pos U U) in omega arith

-- below a power of two the midpoint is nearer
pub power-side : (X u g : ℕ) → 0 < u → (g + 1) * (g + 1) * 4 ≤ X → ((2 * g + 1) * u + (g + 1) * (2 * u)) * ((2 * g + 1) * u + (g + 1) * (2 * u)) < 4 * (X * (u * u))
power-side X u g U h =
    let a : (4 * g + 3) * (4 * g + 3) < 4 * X = omega arith in
    let c : (4 * g + 3) * (4 * g + 3) * (u * u) < 4 * X * (u * u) = mul-lt-mul_of_pos_right a (mul-pos U U) in
    regrouped g u X c
  where
    regrouped : (g u X : ℕ) → (4 * g + 3) * (4 * g + 3) * (u * u) < 4 * X * (u * u) → ((2 * g + 1) * u + (g + 1) * (2 * u)) * ((2 * g + 1) * u + (g + 1) * (2 * u)) < 4 * (X * (u * u))
    regrouped g u X c = omega arith

-- ---- both sides, for the root q * 2 ^ (j + 1) of x * 2 ^ 54 * 4 ^ j

abbrev pub Sides : ℕ → ℕ → Type 0
Sides w R = ((val (R - 1) + val R) * (val (R - 1) + val R) < 4 * w) × (4 * w < (val R + val (R + 1)) * (val R + val (R + 1)))

module _ (j x p : ℕ) (X-lo : hidden_bit ≤ x) (w : Whole (x * 2 ^ 54) p) (r : (2 ^ 53 ≤ p) × (p ≤ 2 ^ 54 - 2)) (J : j < 2000) where
  abbrev q : ℕ
  q = (p + 1) / 2

  q-lo : hidden_bit ≤ q
  q-lo = let a = r.0 in omega arith

  q-hi : q < 2 * hidden_bit
  q-hi = let a = r.1 in omega arith

  u_pos : 0 < 2 ^ j
  u_pos = pow_pos j

  here : val (suc j * hidden_bit + q) ≡ q * (2 * 2 ^ j)
  here = let m : suc (suc j) < 2047 = omega arith in val_normal (suc j) q q-lo q-hi m ∙ ap (λ (y : ℕ). q * y) (twice j)

  next : val (suc j * hidden_bit + q + 1) ≡ (q + 1) * (2 * 2 ^ j)
  next = let a = q-hi in let m : suc j * hidden_bit + q + 1 < infinity_bits = omega arith in val_up (suc j) q q-lo q-hi m ∙ ap (λ (y : ℕ). (q + 1) * y) (twice j)

  high-side : 4 * (x * 2 ^ 54 * (2 ^ j * 2 ^ j)) < (val (suc j * hidden_bit + q) + val (suc j * hidden_bit + q + 1)) * (val (suc j * hidden_bit + q) + val (suc j * hidden_bit + q + 1))
  high-side =
      subst (λ (y : ℕ). 4 * (x * 2 ^ 54 * (2 ^ j * 2 ^ j)) < (y + val (suc j * hidden_bit + q + 1)) * (y + val (suc j * hidden_bit + q + 1))) (sym here)
      (subst (λ (y : ℕ). 4 * (x * 2 ^ 54 * (2 ^ j * 2 ^ j)) < (q * (2 * 2 ^ j) + y) * (q * (2 * 2 ^ j) + y)) (sym next)
      (up-side (x * 2 ^ 54) p (2 ^ j) u_pos w.high))

  low-side : (val (suc j * hidden_bit + q - 1) + val (suc j * hidden_bit + q)) * (val (suc j * hidden_bit + q - 1) + val (suc j * hidden_bit + q)) < 4 * (x * 2 ^ 54 * (2 ^ j * 2 ^ j))
  low-side = go (eq-or-lt_of_le q-lo)
    where
      go : (hidden_bit ≡ q) ⊎ (hidden_bit < q) → (val (suc j * hidden_bit + q - 1) + val (suc j * hidden_bit + q)) * (val (suc j * hidden_bit + q - 1) + val (suc j * hidden_bit + q)) < 4 * (x * 2 ^ 54 * (2 ^ j * 2 ^ j))
      go (inl e) =
          let m : suc (suc j) < 2047 = omega arith in
          let h : hidden_bit * hidden_bit * 4 ≤ x * 2 ^ 54 = omega arith in
          let a : val (suc j * hidden_bit + q - 1) ≡ (2 * hidden_bit - 1) * 2 ^ j = ap (λ (y : ℕ). val (suc j * hidden_bit + y - 1)) (sym e) ∙ val_down_power j m in
          let b : val (suc j * hidden_bit + q) ≡ hidden_bit * (2 * 2 ^ j) = here ∙ ap (λ (y : ℕ). y * (2 * 2 ^ j)) (sym e) in
          subst (λ (y : ℕ). (y + val (suc j * hidden_bit + q)) * (y + val (suc j * hidden_bit + q)) < 4 * (x * 2 ^ 54 * (2 ^ j * 2 ^ j))) (sym a)
          (subst (λ (y : ℕ). ((2 * hidden_bit - 1) * 2 ^ j + y) * ((2 * hidden_bit - 1) * 2 ^ j + y) < 4 * (x * 2 ^ 54 * (2 ^ j * 2 ^ j))) (sym b)
          (power-side (x * 2 ^ 54) (2 ^ j) (hidden_bit - 1) u_pos h))
      go (inr l) =
          let m : suc (suc j) < 2047 = omega arith in
          let f : q ≡ q - 1 + 1 = omega arith in
          let a : val (suc j * hidden_bit + q - 1) ≡ (q - 1) * (2 * 2 ^ j) = val_down (suc j) q l q-hi m ∙ ap (λ (y : ℕ). (q - 1) * y) (twice j) in
          let b : val (suc j * hidden_bit + q) ≡ (q - 1 + 1) * (2 * 2 ^ j) = here ∙ ap (λ (y : ℕ). y * (2 * 2 ^ j)) f in
          subst (λ (y : ℕ). (y + val (suc j * hidden_bit + q)) * (y + val (suc j * hidden_bit + q)) < 4 * (x * 2 ^ 54 * (2 ^ j * 2 ^ j))) (sym a)
          (subst (λ (y : ℕ). ((q - 1) * (2 * 2 ^ j) + y) * ((q - 1) * (2 * 2 ^ j) + y) < 4 * (x * 2 ^ 54 * (2 ^ j * 2 ^ j))) (sym b)
          (down-side (x * 2 ^ 54) (q - 1) (2 ^ j) u_pos (down_lt x p (q - 1) f w.low)))

-- ---- `sqrt` of a pattern's value is the value of a pattern with those sides

normed : (b : ℕ) → 0 < b → b < infinity_bits → (s : ℕ) × (e : ℕ) × Scaled b s e
normed b p h = go (leb hidden_bit b) (leb→le hidden_bit b) (nleb→lt hidden_bit b)
  where
    go : (t : Bool) → (T t → hidden_bit ≤ b) → (T (not t) → b < hidden_bit) → (s : ℕ) × (e : ℕ) × Scaled b s e
    go true a c = (_, _, of_normal b (a tt) h)
    go false a c = (_, _, of_subnormal b p (c tt))

pub record Found (b R : ℕ) : Type 0 where
  pub is : sqrt (of_bits binary64 b) ≡ of_bits binary64 R
  pub pos : 0 < R
  pub fin : R < infinity_bits
  pub sides : Sides (val b * 2 ^ 1074) R

pub found : (b : ℕ) → 0 < b → b < infinity_bits → (R : ℕ) × Found b R
found b P B =
    let z = normed b P B in
    let s = z.0 in
    let e = z.1 in
    let n = z.2 in
    let x = s * 2 ^ (e % 2) in
    let x-hi = (evened n).high in
    let small : x * 2 ^ 54 < 4 ^ 54 = omega arith in
    let p = whole_root 54 (x * 2 ^ 54) in
    let w = root-whole 54 (x * 2 ^ 54) small in
    let k = e / 2 - 26 in
    let j = e / 2 - 26 - 1 in
    let e_lo = n.e_lo in
    let e_hi = n.e_hi in
    let J : j < 2000 = omega arith in
    let kj : k ≡ suc j = omega arith in
    let E : 54 ≤ e = omega arith in
    let v : val b * 2 ^ 1074 ≡ x * 2 ^ 54 * (2 ^ j * 2 ^ j) = n.val ∙ scaled-is s e E ∙ ap (λ (y : ℕ). x * 2 ^ 54 * y) (four_is j) in
    let r = p_range p n w in
    let t = root-pattern p n w in
    let R = k * hidden_bit + (p + 1) / 2 in
    let lo = low-side j x p (evened n).low w r J in
    let hi = high-side j x p (evened n).low w r J in
    let at : Sides (val b * 2 ^ 1074) R = subst (λ (y : ℕ). Sides y R) (sym v) (subst (λ (y : ℕ). Sides (x * 2 ^ 54 * (2 ^ j * 2 ^ j)) (y * hidden_bit + (p + 1) / 2)) (sym kj) (lo, hi)) in
    let rp = r.0 in
    (R, record { is = sym t.0; pos = omega arith; fin = t.1; sides = at })

-- ---- the two theorems

sides_clash : (w a b c d : ℕ) → 4 * w < (a + b) * (a + b) → a ≤ c → b ≤ d → (c + d) * (c + d) < 4 * w → ⊥
sides_clash w a b c d h p q k = lt_irrefl (4 * w) (lt_trans h (lt_of_le_of_lt (mul-le-mul (add-le-add p q) (add-le-add p q)) k))

pub only_sides : (w R c : ℕ) → 0 < R → R < infinity_bits → 0 < c → c < infinity_bits → Sides w R → Sides w c → c ≡ R
only_sides w R c P B Q C s t = go (leb c R) (leb→le c R) (nleb→lt c R)
  where
    smaller : (a b : ℕ) → 0 < b → b < infinity_bits → a < b → Sides w a → Sides w b → ⊥
    smaller a b P B l s t =
        let x : a ≤ b - 1 = omega arith in
        let y : a + 1 ≤ b = omega arith in
        let z : b - 1 < infinity_bits = omega arith in
        sides_clash w (val a) (val (a + 1)) (val (b - 1)) (val b) s.1 (val_mono a (b - 1) x z) (val_mono (a + 1) b y B) t.0

    go : (b : Bool) → (T b → c ≤ R) → (T (not b) → R < c) → c ≡ R
    go true a d = elim (eq-or-lt_of_le (a tt)) [ inl e ↦ e | inr l ↦ absurd (smaller c R P B l t s) ]
    go false a d = absurd (smaller R c Q C (d tt) s t)

-- a positive finite value's pattern
above_zero : (v : Float) → T (positive v) → lt zero_float v ≡ true
unfolding lt of_bits
above_zero nan p = absurd p
above_zero (inf s) p = absurd p
above_zero (fin true m e) p = absurd p
above_zero (fin false m e) p =
    lt-ltb (0 * 1 * down e) (m * up e * 1)
    (lt_of_le_of_lt (le_of_eq (zero-mul (down e))) (subst (λ (x : ℕ). 0 < x) (sym (mul-one (m * up e))) (mul-pos (ltb→lt 0 m p) (up_pos e))))

no_inf : T (positive (inf false)) → ⊥
no_inf p = p

pub bits_in : (v : Float) → T (fits binary64 v) → T (positive v) → (0 < to_bits binary64 v) × (to_bits binary64 v < infinity_bits)
bits_in v f p = (
  bits_pos v f (above_zero v p),
  lt_of_not-le (λ (k : infinity_bits ≤ to_bits binary64 v). no_inf (subst (λ (x : Float). T (positive x)) (inf_only v f (above_zero v p) k) p)),
)

pattern : (R : ℕ) → R < infinity_bits → to_bits binary64 (of_bits binary64 R) ≡ R
pattern R h = to_bits-of_bits binary64 R (lt_trans h (lit< tt)) (subst (λ (t : Bool). T (not t)) (nan_bits_is binary64 R) (finite_bits R h))

-- with v and r for the values of the patterns b and c
between_of : (b c : ℕ) → c < infinity_bits → Sides (val b * 2 ^ 1074) c → Between (of_bits binary64 b) (of_bits binary64 c)
between_of b c h s =
    let e = pattern c h in
    record {
      low = subst (λ (x : ℕ). (val (x - 1) + val c) * (val (x - 1) + val c) < 4 * (val b * 2 ^ 1074)) (sym e) s.0;
      high = subst (λ (x : ℕ). 4 * (val b * 2 ^ 1074) < (val c + val (x + 1)) * (val c + val (x + 1))) (sym e) s.1;
    }

sides_of : (b c : ℕ) → c < infinity_bits → Between (of_bits binary64 b) (of_bits binary64 c) → Sides (val b * 2 ^ 1074) c
sides_of b c h s =
    let e = pattern c h in (
      subst (λ (x : ℕ). (val (x - 1) + val c) * (val (x - 1) + val c) < 4 * (val b * 2 ^ 1074)) e s.low,
      subst (λ (x : ℕ). 4 * (val b * 2 ^ 1074) < (val c + val (x + 1)) * (val c + val (x + 1))) e s.high,
    )

pub nearest : (v : Float) → T (fits binary64 v) → T (positive v) → Between v (sqrt v)
nearest v f p =
    let b = to_bits binary64 v in
    let e : of_bits binary64 b ≡ v = of_bits-to_bits binary64 v f in
    let i = bits_in v f p in
    let z = found b i.0 i.1 in
    subst (λ (x : Float). Between x (sqrt x)) e (subst (λ (x : Float). Between (of_bits binary64 b) x) (sym z.1.is) (between_of b z.0 z.1.fin z.1.sides))

only_positive : (v r : Float) → T (fits binary64 v) → T (positive v) → T (fits binary64 r) → T (positive r) → Between v r → r ≡ sqrt v
only_positive v r f p g q t =
    let b = to_bits binary64 v in
    let c = to_bits binary64 r in
    let e : of_bits binary64 b ≡ v = of_bits-to_bits binary64 v f in
    let d : of_bits binary64 c ≡ r = of_bits-to_bits binary64 r g in
    let i = bits_in v f p in
    let k = bits_in r g q in
    let z = found b i.0 i.1 in
    let s = sides_of b c k.1 (subst (λ (x : Float). Between (of_bits binary64 b) x) (sym d) (subst (λ (x : Float). Between x r) (sym e) t)) in
    sym d ∙ ap (of_bits binary64) (only_sides (val b * 2 ^ 1074) z.0 c z.1.pos z.1.fin k.0 k.1 z.1.sides s) ∙ sym z.1.is ∙ ap sqrt e

-- ---- no other f64 than the positive finite ones comes into question, but for the negative, whose squares are those of the positive

some-units : (v : Float) → T (fits binary64 v) → T (positive v) → 0 < units_of v
unfolding ticks
some-units nan f p = absurd p
some-units (inf s) f p = absurd p
some-units (fin true m e) f p = absurd p
some-units (fin false zero e) f p = absurd (lt_irrefl 0 (ltb→lt 0 0 p))
some-units (fin false (suc m) e) f p = ticks_pos binary64 false m e f

none_below : (u x : ℕ) → 0 < u → x ≡ 0 → 4 * (u * 2 ^ 1074) < x * x → ⊥
none_below u x h e l = let z : x * x ≡ 0 = rw e in not-le_of_lt l (subst (λ (y : ℕ). y ≤ 4 * (u * 2 ^ 1074)) (sym z) zero-le)

none-at-one : (u w x : ℕ) → 0 < u → 0 < w → x ≡ 1 → 4 * (u * w) < x * x → ⊥
none-at-one u w x h k e l = let z : x * x ≡ 1 = rw e in let g : 0 < u * w = mul-pos h k in omega arith

at-nan : units_of nan + units_of (above nan) ≡ 0
unfolding of_bits to_bits
at-nan = refl

at_infinity : units_of (inf false) + units_of (above (inf false)) ≡ 0
unfolding of_bits to_bits
at_infinity = refl

at_zero : (s : Bool) → units_of (fin s 0 (pos 0)) + units_of (above (fin s 0 (pos 0))) ≡ 1
unfolding of_bits to_bits
at_zero true = refl
at_zero false = refl

not_negative_positive : (v r : Float) → T (fits binary64 v) → T (positive v) → T (fits binary64 r) → lt r zero_float ≡ false → Between v r → T (positive r)
unfolding lt of_bits
not_negative_positive v nan f p g n t = absurd (none_below (units_of v) _ (some-units v f p) at-nan t.high)
not_negative_positive v (inf true) f p g n t = absurd (true≢false n)
not_negative_positive v (inf false) f p g n t = absurd (none_below (units_of v) _ (some-units v f p) at_infinity t.high)
not_negative_positive v (fin s zero e) f p g n t =
    let z = zero_is binary64 s e g in
    absurd (none-at-one (units_of v) (2 ^ 1074) _ (some-units v f p) (pow_pos 1074) (at_zero s) (rw z at t.high))
not_negative_positive v (fin true (suc m) e) f p g n t =
    let k : 0 < suc m * up e * 1 = mul-pos (mul-pos (zero-lt-suc m) (up_pos e)) (zero-lt-suc 0) in
    absurd (true≢false (sym (lt-ltb 0 (suc m * up e * 1 + 0 * 1 * down e) (omega arith)) ∙ n))
not_negative_positive v (fin false (suc m) e) f p g n t = lt→ltb 0 (suc m) (zero-lt-suc m)

-- of the f64s not below zero, v lies between the squares of the midpoints to the neighbours of one only
pub only : (v r : Float) → T (fits binary64 v) → T (positive v) → T (fits binary64 r) → lt r zero_float ≡ false → Between v r → r ≡ sqrt v
only v r f p g n t = only_positive v r f p g (not_negative_positive v r f p g n t) t
