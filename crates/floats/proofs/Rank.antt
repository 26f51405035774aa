-- The larger of two floats is the one of higher rank: a natural number for each value that the format holds, no two the same.
use Prim.Native.Nat.{ℕ, zero, suc, ◌+◌, ◌-◌, ◌*◌, ◌/◌, ◌%◌, ◌^◌, ◌≤◌, ◌<◌}
use mathlib.Core.Path.{◌≡◌, refl, sym, ◌∙◌, ap, subst}
use mathlib.Core.Bool.{Bool, true, false, cond, ◌&&◌}
use native.Mathlib.Omega.{arith}
use native.Mathlib.Nat.{mul_assoc, mul_comm, mul_right_comm, mul-one, one-mul, zero-mul, pow-succ', mul-div_cancel, mul-lt-mul_of_pos_right, lt_of_mul-lt-mul_right, le_of_mul-le-mul_right, mul-le-mul_right, lt_irrefl, mul-pos}
use lib.IntN.{ℤ, pos, negsuc}
use lib.Dec.{T, leb, ltb, eqb, eqb→eq, leb→le, ltb→lt}
use lib.Pow.{pow_pos, pow-lt, pow-add}
use lib.Ieee.{Float, nan, inf, fin, Format, prec, emax, low, up, down, fits, to_bits, of_bits}
use lib.Ieee.Bits.{of_bits-to_bits}
use lib.Ieee.Fits.{and_l, and_r, down_pos}

-- ---- a finite value in units of the format's smallest

unfoldable pub ticks : Format → ℕ → ℤ → ℕ
ticks f m e = m * up e * 2 ^ low f / down e

pub exponent : (k l : ℕ) → 2 ^ suc k ≤ 2 ^ l → suc k ≤ l
exponent k l h = go (leb (suc k) l) refl
  where
    go : (b : Bool) → leb (suc k) l ≡ b → suc k ≤ l
    go true e = leb→le (suc k) l (subst T (sym e) tt)
    go false e = absurd (lt_irrefl (2 ^ l) (native.Mathlib.Nat.lt_of_lt_of_le (pow-lt (borrow.Author.Tests.leb-false (suc k) l e)) h))

-- 2 ^ l is a multiple of 2 ^ -e
times : (l : ℕ) (e : ℤ) → down e ≤ 2 ^ l → (q : ℕ) × (2 ^ l ≡ q * down e)
times l (pos k) h = (2 ^ l, sym (mul-one (2 ^ l)))
times l (negsuc k) h =
    let d = exponent k l h in
    let g : l ≡ (l - suc k) + suc k = omega arith in
    (2 ^ (l - suc k), ap (λ (x : ℕ). 2 ^ x) g ∙ pow-add 2 (l - suc k) (suc k))

flat : (e : ℤ) → up e * down e ≡ 1 → e ≡ pos 0
flat (pos zero) h = refl
flat (pos (suc a)) h = let g = pow-succ' 2 a in let p = pow_pos a in let k : 2 ^ suc a ≡ 1 = sym (mul-one (2 ^ suc a)) ∙ h in absurd (omega arith)
flat (negsuc a) h = let g = pow-succ' 2 a in let p = pow_pos a in let k : 2 ^ suc a ≡ 1 = sym (one-mul (2 ^ suc a)) ∙ h in absurd (omega arith)

-- a zero is written in one way
pub zero_is : (f : Format) (s : Bool) (e : ℤ) → T (fits f (fin s zero e)) → e ≡ pos 0
unfolding fits
zero_is f s e h = flat e (eqb→eq (up e * down e) 1 h)

pub low-enough : (f : Format) (s : Bool) (m : ℕ) (e : ℤ) → T (fits f (fin s m e)) → down e ≤ 2 ^ low f
unfolding fits
low-enough f s zero e h = let g = flat e (eqb→eq (up e * down e) 1 h) in rw g (pow_pos (low f))
low-enough f s (suc m) e h =
    let A = eqb (suc m % 2) 1 in
    let B = ltb (suc m) (2 ^ prec f) in
    let C = leb (down e) (2 ^ low f) in
    let D = ltb (suc m * up e) (2 ^ suc (emax f) * down e) in
    leb→le (down e) (2 ^ low f) (and_r (A && B) C (and_l (A && B && C) D h))

pub high-enough : (f : Format) (s : Bool) (m : ℕ) (e : ℤ) → T (fits f (fin s m e)) → m * up e < 2 ^ suc (emax f) * down e
unfolding fits
high-enough f s zero e h = rw zero-mul (mul-pos (pow_pos (suc (emax f))) (down_pos e))
high-enough f s (suc m) e h =
    let A = eqb (suc m % 2) 1 in
    let B = ltb (suc m) (2 ^ prec f) in
    let C = leb (down e) (2 ^ low f) in
    let D = ltb (suc m * up e) (2 ^ suc (emax f) * down e) in
    ltb→lt (suc m * up e) (2 ^ suc (emax f) * down e) (and_r (A && B && C) D h)

pub ticks-is : (f : Format) (s : Bool) (m : ℕ) (e : ℤ) → T (fits f (fin s m e)) → ticks f m e * down e ≡ m * up e * 2 ^ low f
unfolding ticks
ticks-is f s m e h =
    let t = times (low f) e (low-enough f s m e h) in
    let g : m * up e * 2 ^ low f ≡ m * up e * t.0 * down e = ap (λ (x : ℕ). m * up e * x) t.1 ∙ sym (mul_assoc (m * up e) t.0 (down e)) in
    ap (λ (x : ℕ). x / down e * down e) g ∙ ap (λ (x : ℕ). x * down e) (mul-div_cancel (m * up e * t.0) (down_pos e)) ∙ sym g

unfoldable pub middle : Format → ℕ
middle f = 2 ^ suc (emax f) * 2 ^ low f

pub ticks-lt : (f : Format) (s : Bool) (m : ℕ) (e : ℤ) → T (fits f (fin s m e)) → ticks f m e < middle f
unfolding middle
ticks-lt f s m e h =
    lt_of_mul-lt-mul_right (down e)
    (subst (λ (x : ℕ). x < 2 ^ suc (emax f) * 2 ^ low f * down e) (sym (ticks-is f s m e h))
    (subst (λ (x : ℕ). m * up e * 2 ^ low f < x) (mul_right_comm (2 ^ suc (emax f)) (down e) (2 ^ low f))
    (mul-lt-mul_of_pos_right (high-enough f s m e h) (pow_pos (low f)))))

-- ---- products compared are ticks compared

module _ (a b x y l d : ℕ) (ea : a * l ≡ x * d) (eb : b * l ≡ y * d) (pl : 0 < l) (pd : 0 < d) where
  pub less : a < b → x < y
  less h = lt_of_mul-lt-mul_right d (subst (λ (t : ℕ). t < y * d) ea (subst (λ (t : ℕ). a * l < t) eb (mul-lt-mul_of_pos_right h pl)))

  pub more : b ≤ a → y ≤ x
  more h = le_of_mul-le-mul_right (subst (λ (t : ℕ). t ≤ x * d) eb (subst (λ (t : ℕ). b * l ≤ t) ea (mul-le-mul_right l h))) pd

module _ (f : Format) (s t : Bool) (m n : ℕ) (e d : ℤ) (p : T (fits f (fin s m e))) (q : T (fits f (fin t n d))) where
  left_is : m * up e * down d * 2 ^ low f ≡ ticks f m e * (down e * down d)
  left_is = mul_right_comm (m * up e) (down d) (2 ^ low f) ∙ ap (λ (x : ℕ). x * down d) (sym (ticks-is f s m e p)) ∙ mul_assoc (ticks f m e) (down e) (down d)

  right_is : n * up d * down e * 2 ^ low f ≡ ticks f n d * (down e * down d)
  right_is =
      mul_right_comm (n * up d) (down e) (2 ^ low f) ∙ ap (λ (x : ℕ). x * down e) (sym (ticks-is f t n d q)) ∙ mul_assoc (ticks f n d) (down d) (down e)
      ∙ ap (λ (x : ℕ). ticks f n d * x) (mul_comm (down d) (down e))

  pub ticks-less : m * up e * down d < n * up d * down e → ticks f m e < ticks f n d
  ticks-less = less (m * up e * down d) (n * up d * down e) (ticks f m e) (ticks f n d) (2 ^ low f) (down e * down d) left_is right_is (pow_pos (low f)) (mul-pos (down_pos e) (down_pos d))

  pub ticks_more : n * up d * down e ≤ m * up e * down d → ticks f n d ≤ ticks f m e
  ticks_more = more (m * up e * down d) (n * up d * down e) (ticks f m e) (ticks f n d) (2 ^ low f) (down e * down d) left_is right_is (pow_pos (low f)) (mul-pos (down_pos e) (down_pos d))

-- ---- two values of the same sign and ticks are the same

bits-same : (f : Format) (s : Bool) (m n : ℕ) (e d : ℤ) → ticks f m e ≡ ticks f n d → to_bits f (fin s m e) ≡ to_bits f (fin s n d)
unfolding to_bits ticks
bits-same f s m n e d h = ap (λ (x : ℕ). let k = lib.Ieee.size x - prec f in cond s (lib.Ieee.top f) 0 + k * lib.Ieee.hid f + x / 2 ^ k) h

pub ticks_inj : (f : Format) (s : Bool) (m n : ℕ) (e d : ℤ) → T (fits f (fin s m e)) → T (fits f (fin s n d)) → ticks f m e ≡ ticks f n d → fin s m e ≡ fin s n d
ticks_inj f s m n e d p q h = sym (of_bits-to_bits f (fin s m e) p) ∙ ap (of_bits f) (bits-same f s m n e d h) ∙ of_bits-to_bits f (fin s n d) q

-- ---- the rank: NaN, -∞, the negative by falling size, -0, +0, the positive, ∞

unfoldable pub rank : Format → Float → ℕ
rank f nan = 0
rank f (inf true) = 1
rank f (fin true m e) = suc (middle f) - ticks f m e
rank f (fin false m e) = suc (suc (middle f)) + ticks f m e
rank f (inf false) = suc (suc (suc (middle f + middle f)))

pub rank_inj : (f : Format) (x y : Float) → T (fits f x) → T (fits f y) → rank f x ≡ rank f y → x ≡ y
unfolding rank
rank_inj f nan nan p q h = refl
rank_inj f nan (inf true) p q h = absurd (omega arith)
rank_inj f nan (inf false) p q h = absurd (omega arith)
rank_inj f nan (fin true n d) p q h = absurd (omega (arith, ticks-lt f true n d q))
rank_inj f nan (fin false n d) p q h = absurd (omega arith)
rank_inj f (inf true) nan p q h = absurd (omega arith)
rank_inj f (inf true) (inf true) p q h = refl
rank_inj f (inf true) (inf false) p q h = absurd (omega arith)
rank_inj f (inf true) (fin true n d) p q h = absurd (omega (arith, ticks-lt f true n d q))
rank_inj f (inf true) (fin false n d) p q h = absurd (omega arith)
rank_inj f (inf false) nan p q h = absurd (omega arith)
rank_inj f (inf false) (inf true) p q h = absurd (omega arith)
rank_inj f (inf false) (inf false) p q h = refl
rank_inj f (inf false) (fin true n d) p q h = absurd (omega (arith, ticks-lt f true n d q))
rank_inj f (inf false) (fin false n d) p q h = absurd (omega (arith, ticks-lt f false n d q))
rank_inj f (fin true m e) nan p q h = absurd (omega (arith, ticks-lt f true m e p))
rank_inj f (fin true m e) (inf true) p q h = absurd (omega (arith, ticks-lt f true m e p))
rank_inj f (fin true m e) (inf false) p q h = absurd (omega (arith, ticks-lt f true m e p))
rank_inj f (fin true m e) (fin true n d) p q h = ticks_inj f true m n e d p q (omega (arith, ticks-lt f true m e p, ticks-lt f true n d q))
rank_inj f (fin true m e) (fin false n d) p q h = absurd (omega (arith, ticks-lt f true m e p))
rank_inj f (fin false m e) nan p q h = absurd (omega arith)
rank_inj f (fin false m e) (inf true) p q h = absurd (omega arith)
rank_inj f (fin false m e) (inf false) p q h = absurd (omega (arith, ticks-lt f false m e p))
rank_inj f (fin false m e) (fin true n d) p q h = absurd (omega (arith, ticks-lt f true n d q))
rank_inj f (fin false m e) (fin false n d) p q h = ticks_inj f false m n e d p q (omega arith)
