-- A sum with a term that is not above zero is not above the other term, and one with a term not below zero is not below it: for values that the format holds.
use Prim.Native.Nat.{ℕ, zero, suc, ◌+◌, ◌-◌, ◌*◌, ◌%◌, ◌^◌, ◌≤◌, ◌<◌}
use mathlib.Core.Path.{◌≡◌, refl, sym, ◌∙◌, ap, subst}
use mathlib.Core.Bool.{Bool, true, false, not, cond, ◌&&◌, ◌||◌, true≢false}
use native.Mathlib.Omega.{arith}
use native.Mathlib.Nat.{mul_assoc, mul_comm, mul_right_comm, mul-one, one-mul, zero-mul, mul-pos, lt_of_mul-lt-mul_right, mul-lt-mul_of_pos_right, eq_of_mul-eq-mul_right, le_antisymm, le_of_eq, zero-lt-suc, mul-le-mul_right}
use lib.IntN.{ℤ, pos, negsuc}
use lib.Dec.{T, leb, ltb, eqb, ltb→lt}
use lib.Pow.{pow_pos, pow-add}
use lib.Ieee.{Float, nan, inf, fin, Format, prec, emax, low, up, down, fits, odd, units, round, sum, add, sub, neg, lt, le}
use lib.Ieee.Bits.{is_true}
use lib.Ieee.Fits.{and_l, and_r, up_pos, down_pos, round_is, round-fits}
use lib.Ieee.Exact.{HasValue, round_exact, odd_sign}
use lib.Ieee.Order.{round_mono}
use borrow.Author.Tests.{lt-ltb, le-ltb, eqb-true}
use Rattle.floats.proofs.Order.{lt-neg, not-above, lt_self}
use Rattle.floats.proofs.Rank.{ticks_more, ticks_inj, exponent, low-enough, high-enough}

-- ---- a value is known by its sign and size

module _ (f : Format) (s : Bool) (m n : ℕ) (e d : ℤ) (p : T (fits f (fin s m e))) (q : T (fits f (fin s n d))) where
  cross_unique : m * up e * down d ≡ n * up d * down e → fin s m e ≡ fin s n d
  cross_unique h = ticks_inj f s m n e d p q (le_antisymm (ticks_more f s s n m d e q p (le_of_eq h)) (ticks_more f s s m n e d p q (le_of_eq (sym h))))

cross : (x y a c de dd : ℕ) → 0 < c → x * c ≡ a * de → y * c ≡ a * dd → x * dd ≡ y * de
cross x y a c de dd h p q =
    eq_of_mul-eq-mul_right c h (x * dd) (y * de)
    (mul_right_comm x dd c ∙ ap (λ (t : ℕ). t * dd) p ∙ mul_right_comm a de dd ∙ ap (λ (t : ℕ). t * de) (sym q) ∙ mul_right_comm y c de)

pub value_unique : (f : Format) (s : Bool) (x y : Float) (a c : ℕ) → 0 < c → T (fits f x) → T (fits f y) → HasValue x s a c → HasValue y s a c → x ≡ y
value_unique f s nan y a c h p q v w = absurd v
value_unique f s (inf t) y a c h p q v w = absurd v
value_unique f s (fin t m e) nan a c h p q v w = absurd w
value_unique f s (fin t m e) (inf u) a c h p q v w = absurd w
value_unique f s (fin t m e) (fin u n d) a c h p q v w =
    let g : u ≡ t = w.0 ∙ sym v.0 in
    cross_unique f t m n e d p (subst (λ (b : Bool). T (fits f (fin b n d))) g q) (cross (m * up e) (n * up d) a c (down e) (down d) h v.1 w.1)
    ∙ ap (λ (b : Bool). fin b n d) (sym g)

-- ---- what the format holds is rounded to itself

few-digits : (f : Format) (s : Bool) (m : ℕ) (e : ℤ) → T (fits f (fin s m e)) → m < 2 ^ prec f
unfolding fits
few-digits f s zero e h = pow_pos (prec f)
few-digits f s (suc m) e h =
    let A = eqb (suc m % 2) 1 in
    let B = ltb (suc m) (2 ^ prec f) in
    let C = leb (down e) (2 ^ low f) in
    let D = ltb (suc m * up e) (2 ^ suc (emax f) * down e) in
    ltb→lt (suc m) (2 ^ prec f) (and_r A B (and_l (A && B) C (and_l (A && B && C) D h)))

power : (l : ℕ) (e : ℤ) → down e ≤ 2 ^ l → (j : ℕ) × (up e * 2 ^ l ≡ 2 ^ j * down e)
power l (pos k) h = (k + l, sym (pow-add 2 k l) ∙ sym (mul-one (2 ^ (k + l))))
power l (negsuc k) h =
    let d = exponent k l h in
    let g : l ≡ (l - suc k) + suc k = omega arith in
    (l - suc k, one-mul (2 ^ l) ∙ ap (λ (x : ℕ). 2 ^ x) g ∙ pow-add 2 (l - suc k) (suc k))

pub round_self : (f : Format) (s : Bool) (m : ℕ) (e : ℤ) (k : ℕ) → 0 < k → T (fits f (fin s m e)) → round f s (m * up e * k) (down e * k) ≡ fin s m e
round_self f s m e k h p =
    let j = power (low f) e (low-enough f s m e p) in
    let g : m * up e * 2 ^ low f ≡ m * 2 ^ j.0 * down e = mul_assoc m (up e) (2 ^ low f) ∙ ap (λ (x : ℕ). m * x) j.1 ∙ sym (mul_assoc m (2 ^ j.0) (down e)) in
    let small : m * 2 ^ j.0 < 2 ^ (low f + suc (emax f)) =
    lt_of_mul-lt-mul_right (down e)
    (subst (λ (x : ℕ). x < 2 ^ (low f + suc (emax f)) * down e) g
    (subst (λ (x : ℕ). m * up e * 2 ^ low f < x)
    (mul_right_comm (2 ^ suc (emax f)) (down e) (2 ^ low f) ∙ ap (λ (x : ℕ). x * down e) (mul_comm (2 ^ suc (emax f)) (2 ^ low f) ∙ sym (pow-add 2 (low f) (suc (emax f)))))
    (mul-lt-mul_of_pos_right (high-enough f s m e p) (pow_pos (low f))))) in
    let eq' : m * up e * k * 2 ^ low f ≡ m * 2 ^ j.0 * (down e * k) =
    mul_right_comm (m * up e) k (2 ^ low f) ∙ ap (λ (x : ℕ). x * k) g ∙ mul_assoc (m * 2 ^ j.0) (down e) k in
    value_unique f s (round f s (m * up e * k) (down e * k)) (fin s m e) (m * up e * k) (down e * k) (mul-pos (down_pos e) h) (round-fits f s (m * up e * k) (down e * k)) p
    (round_exact f s (m * up e * k) (down e * k) m j.0 (mul-pos (down_pos e) h) (few-digits f s m e p) small eq')
    (refl, ap (λ (x : ℕ). m * up e * x) (mul_comm (down e) k) ∙ sym (mul_assoc (m * up e) k (down e)))

-- ---- signs

neg_odd : (d q k l : ℕ) (s : Bool) → odd d (not s) q k l ≡ neg (odd d s q k l)
unfolding odd neg
neg_odd d zero k l s = refl
neg_odd d (suc q) k l s = refl

neg-units : (f : Format) (s : Bool) (q k : ℕ) → units f (not s) q k ≡ neg (units f s q k)
unfolding units
neg-units f s q k = go (ltb (q * 2 ^ k) (2 ^ (low f + suc (emax f))))
  where
    go : (b : Bool) → cond b (odd (suc (prec f)) (not s) q k (low f)) (inf (not s)) ≡ neg (cond b (odd (suc (prec f)) s q k (low f)) (inf s))
    go true = neg_odd (suc (prec f)) q k (low f) s
    go false = unfold neg in refl

pub round-neg : (f : Format) (s : Bool) (a c : ℕ) → round f (not s) a c ≡ neg (round f s a c)
round-neg f s a c = round_is f (not s) a c ∙ neg-units f s _ _ ∙ ap neg (sym (round_is f s a c))

-- ---- the sign of what is rounded

abbrev pub nonneg : Float → Bool
nonneg nan = true
nonneg (inf s) = not s
nonneg (fin s m e) = not s

nonneg-value : (x : Float) (a c : ℕ) → HasValue x false a c → nonneg x ≡ true
nonneg-value nan a c v = refl
nonneg-value (inf s) a c v = absurd v
nonneg-value (fin s m e) a c v = ap not v.0

nonneg-units : (f : Format) (q k : ℕ) → nonneg (units f false q k) ≡ true
unfolding units
nonneg-units f q k = go (ltb (q * 2 ^ k) (2 ^ (low f + suc (emax f))))
  where
    go : (b : Bool) → nonneg (cond b (odd (suc (prec f)) false q k (low f)) (inf false)) ≡ true
    go true = nonneg-value (odd (suc (prec f)) false q k (low f)) (q * 2 ^ k) (2 ^ low f) (odd_sign (suc (prec f)) false q k (low f))
    go false = refl

pub nonneg-round : (f : Format) (a c : ℕ) → nonneg (round f false a c) ≡ true
nonneg-round f a c = rw (round_is f false a c) (nonneg-units f _ _)

-- not below what is not above zero: +0 is not below -0
pub nonneg-above : (x y : Float) → nonneg x ≡ true → nonneg (neg y) ≡ true → lt x y ≡ false
unfolding lt neg
nonneg-above nan y p q = refl
nonneg-above (inf true) y p q = absurd (true≢false (sym p))
nonneg-above (inf false) nan p q = refl
nonneg-above (inf false) (inf t) p q = refl
nonneg-above (inf false) (fin t n d) p q = refl
nonneg-above (fin s m e) nan p q = refl
nonneg-above (fin s m e) (inf true) p q = refl
nonneg-above (fin s m e) (inf false) p q = absurd (true≢false (sym q))
nonneg-above (fin true m e) (fin t n d) p q = absurd (true≢false (sym p))
nonneg-above (fin false m e) (fin true n d) p q = refl
nonneg-above (fin false m e) (fin false n d) p q = absurd (true≢false (sym q))

-- ---- a sum moves the way its second term points

module _ (f : Format) (m : ℕ) (e : ℤ) (k : ℕ) (h : 0 < k) where
  -- the size of x against that of a larger or smaller fraction
  grows : (b : ℕ) → T (fits f (fin false m e)) → le (fin false m e) (round f false (m * up e * k + b) (down e * k)) ≡ true
  grows b p =
      is_true (le (fin false m e) (round f false (m * up e * k + b) (down e * k)))
      (subst (λ (x : Float). T (le x (round f false (m * up e * k + b) (down e * k)))) (round_self f false m e k h p)
      (round_mono f (m * up e * k) (down e * k) (m * up e * k + b) (down e * k) (mul-pos (down_pos e) h) (mul-pos (down_pos e) h) (mul-le-mul_right (down e * k) (omega arith))))

  shrinks : (b : ℕ) → T (fits f (fin false m e)) → le (round f false (m * up e * k - b) (down e * k)) (fin false m e) ≡ true
  shrinks b p =
      is_true (le (round f false (m * up e * k - b) (down e * k)) (fin false m e))
      (subst (λ (x : Float). T (le (round f false (m * up e * k - b) (down e * k)) x)) (round_self f false m e k h p)
      (round_mono f (m * up e * k - b) (down e * k) (m * up e * k) (down e * k) (mul-pos (down_pos e) h) (mul-pos (down_pos e) h) (mul-le-mul_right (down e * k) (omega arith))))

positive-fits : (f : Format) (m : ℕ) (e : ℤ) → T (fits f (fin true m e)) → T (fits f (fin false m e))
unfolding fits
positive-fits f zero e p = p
positive-fits f (suc m) e p = p

neg_fin : (m : ℕ) (e : ℤ) → fin true m e ≡ neg (fin false m e)
unfolding neg
neg_fin m e = refl

-- x + -b
down_pp : (f : Format) (m : ℕ) (e : ℤ) (k b : ℕ) → 0 < k → T (fits f (fin false m e)) → lt (fin false m e) (sum f false (m * up e * k) true b (down e * k)) ≡ false
unfolding sum
down_pp f m e k b h p = go (ltb (m * up e * k) b)
  where
    go : (x : Bool) → lt (fin false m e) (cond x (round f true (b - m * up e * k) (down e * k)) (round f false (m * up e * k - b) (down e * k))) ≡ false
    go true = nonneg-above (fin false m e) (round f true (b - m * up e * k) (down e * k)) refl
        (subst (λ (z : Float). nonneg z ≡ true) (round-neg f true (b - m * up e * k) (down e * k)) (nonneg-round f (b - m * up e * k) (down e * k)))
    go false = not-above (fin false m e) (round f false (m * up e * k - b) (down e * k)) (shrinks f m e k h b p)

-- -x + -b
down_mm : (f : Format) (m : ℕ) (e : ℤ) (k b : ℕ) → 0 < k → T (fits f (fin true m e)) → lt (fin true m e) (sum f true (m * up e * k) true b (down e * k)) ≡ false
unfolding sum
down_mm f m e k b h p =
    ap (λ (z : Float). lt (fin true m e) z) (round-neg f false (m * up e * k + b) (down e * k))
    ∙ ap (λ (z : Float). lt z (neg (round f false (m * up e * k + b) (down e * k)))) (neg_fin m e)
    ∙ lt-neg (fin false m e) (round f false (m * up e * k + b) (down e * k))
    ∙ not-above (round f false (m * up e * k + b) (down e * k)) (fin false m e) (grows f m e k h b (positive-fits f m e p))

-- x + +b
up_pp : (f : Format) (m : ℕ) (e : ℤ) (k b : ℕ) → 0 < k → T (fits f (fin false m e)) → lt (sum f false (m * up e * k) false b (down e * k)) (fin false m e) ≡ false
unfolding sum
up_pp f m e k b h p = not-above (round f false (m * up e * k + b) (down e * k)) (fin false m e) (grows f m e k h b p)

-- -x + +b
up_mp : (f : Format) (m : ℕ) (e : ℤ) (k b : ℕ) → 0 < k → T (fits f (fin true m e)) → lt (sum f true (m * up e * k) false b (down e * k)) (fin true m e) ≡ false
unfolding sum
up_mp f m e k b h p = go (ltb (m * up e * k) b) (ltb b (m * up e * k))
  where
    unf : nonneg (neg (fin true m e)) ≡ true
    unf = unfold neg in refl

    go : (x y : Bool) → lt (cond x (round f false (b - m * up e * k) (down e * k)) (round f y (m * up e * k - b) (down e * k))) (fin true m e) ≡ false
    go true y = nonneg-above (round f false (b - m * up e * k) (down e * k)) (fin true m e) (nonneg-round f (b - m * up e * k) (down e * k)) unf
    go false false = nonneg-above (round f false (m * up e * k - b) (down e * k)) (fin true m e) (nonneg-round f (m * up e * k - b) (down e * k)) unf
    go false true =
        ap (λ (z : Float). lt z (fin true m e)) (round-neg f false (m * up e * k - b) (down e * k))
        ∙ ap (λ (z : Float). lt (neg (round f false (m * up e * k - b) (down e * k))) z) (neg_fin m e)
        ∙ lt-neg (round f false (m * up e * k - b) (down e * k)) (fin false m e)
        ∙ not-above (fin false m e) (round f false (m * up e * k - b) (down e * k)) (shrinks f m e k h b (positive-fits f m e p))

-- ---- a zero added

-- x + ±0, in each sign
pub add_zero_pp : (f : Format) (m : ℕ) (e : ℤ) (k b : ℕ) → 0 < k → b ≡ 0 → T (fits f (fin false m e)) → sum f false (m * up e * k) true b (down e * k) ≡ fin false m e
unfolding sum
add_zero_pp f m e k b h z p =
    let g : m * up e * k - b ≡ m * up e * k = omega arith in
    rw (le-ltb (m * up e * k) b (omega arith), g) (round_self f false m e k h p)

pub same-zero : (f : Format) (s : Bool) (m : ℕ) (e : ℤ) (k b : ℕ) → 0 < k → b ≡ 0 → T (fits f (fin s m e)) → round f s (m * up e * k + b) (down e * k) ≡ fin s m e
same-zero f s m e k b h z p = let g : m * up e * k + b ≡ m * up e * k = omega arith in rw g (round_self f s m e k h p)

-- -x + +0 is not above -x: it is -x, or +0 where x is zero
down-zero : (f : Format) (m : ℕ) (e : ℤ) (k b : ℕ) → 0 < k → b ≡ 0 → T (fits f (fin true m e)) → lt (fin true m e) (sum f true (m * up e * k) false b (down e * k)) ≡ false
unfolding sum
down-zero f zero e k b h z p =
    let a0 : 0 * up e * k ≡ 0 = ap (λ (x : ℕ). x * k) (zero-mul (up e)) ∙ zero-mul k in
    let g : 0 * up e * k - b ≡ 0 * up e * k = omega arith in
    rw (le-ltb (0 * up e * k) b (omega arith), le-ltb b (0 * up e * k) (omega arith), g, round_self f false 0 e k h (positive-fits f 0 e p)) (zeros e)
  where
    zeros : (e : ℤ) → lt (fin true 0 e) (fin false 0 e) ≡ false
    zeros e = unfold lt in let a0 : 0 * up e * down e ≡ 0 = ap (λ (x : ℕ). x * down e) (zero-mul (up e)) ∙ zero-mul (down e) in le-ltb 0 (0 * up e * down e + 0 * up e * down e) (omega arith)
down-zero f (suc m) e k b h z p =
    let a0 : 0 < suc m * up e * k = mul-pos (mul-pos (zero-lt-suc m) (up_pos e)) h in
    let g : suc m * up e * k - b ≡ suc m * up e * k = omega arith in
    rw (le-ltb (suc m * up e * k) b (omega arith), lt-ltb b (suc m * up e * k) (omega arith), g, round_self f true (suc m) e k h p) (lt_self (fin true (suc m) e))

-- ---- the law

abbrev pub not_positive : Float → Bool
not_positive nan = true
not_positive (inf s) = s
not_positive (fin s m e) = s || eqb m 0

abbrev pub not_negative : Float → Bool
not_negative nan = true
not_negative (inf s) = not s
not_negative (fin s m e) = not s || eqb m 0

zero-size : (n : ℕ) (d e : ℤ) → eqb n 0 ≡ true → n * up d * down e ≡ 0
zero-size n d e h = let g = eqb-true n 0 h in ap (λ (x : ℕ). x * up d * down e) g ∙ ap (λ (x : ℕ). x * down e) (zero-mul (up d)) ∙ zero-mul (down e)

pub add_down : (f : Format) (x z : Float) → T (fits f x) → not_positive z ≡ true → lt x (add f x z) ≡ false
unfolding lt add
add_down f nan z p h = refl
add_down f (inf s) nan p h = refl
add_down f (inf true) (inf true) p h = refl
add_down f (inf true) (inf false) p h = absurd (true≢false (sym h))
add_down f (inf false) (inf true) p h = refl
add_down f (inf false) (inf false) p h = absurd (true≢false (sym h))
add_down f (inf true) (fin t n d) p h = refl
add_down f (inf false) (fin t n d) p h = refl
add_down f (fin s m e) nan p h = refl
add_down f (fin s m e) (inf true) p h = refl
add_down f (fin s m e) (inf false) p h = absurd (true≢false (sym h))
add_down f (fin false m e) (fin true n d) p h = down_pp f m e (down d) (n * up d * down e) (down_pos d) p
add_down f (fin true m e) (fin true n d) p h = down_mm f m e (down d) (n * up d * down e) (down_pos d) p
add_down f (fin false m e) (fin false n d) p h =
    ap (lt (fin false m e)) (add_is f m e (down d) (n * up d * down e) ∙ same-zero f false m e (down d) (n * up d * down e) (down_pos d) (zero-size n d e h) p) ∙ lt_self (fin false m e)
  where
    add_is : (f : Format) (m : ℕ) (e : ℤ) (k b : ℕ) → sum f false (m * up e * k) false b (down e * k) ≡ round f false (m * up e * k + b) (down e * k)
    add_is f m e k b = unfold sum in refl
add_down f (fin true m e) (fin false n d) p h = down-zero f m e (down d) (n * up d * down e) (down_pos d) (zero-size n d e h) p

pub add_up : (f : Format) (x z : Float) → T (fits f x) → not_negative z ≡ true → lt (add f x z) x ≡ false
unfolding lt add
add_up f nan z p h = refl
add_up f (inf s) nan p h = refl
add_up f (inf true) (inf true) p h = absurd (true≢false (sym h))
add_up f (inf true) (inf false) p h = refl
add_up f (inf false) (inf true) p h = absurd (true≢false (sym h))
add_up f (inf false) (inf false) p h = refl
add_up f (inf true) (fin t n d) p h = refl
add_up f (inf false) (fin t n d) p h = refl
add_up f (fin s m e) nan p h = refl
add_up f (fin s m e) (inf true) p h = absurd (true≢false (sym h))
add_up f (fin s m e) (inf false) p h = refl
add_up f (fin false m e) (fin false n d) p h = up_pp f m e (down d) (n * up d * down e) (down_pos d) p
add_up f (fin true m e) (fin false n d) p h = up_mp f m e (down d) (n * up d * down e) (down_pos d) p
add_up f (fin true m e) (fin true n d) p h =
    ap (λ (z : Float). lt z (fin true m e)) (add_is f m e (down d) (n * up d * down e) ∙ same-zero f true m e (down d) (n * up d * down e) (down_pos d) (zero-size n d e h) p) ∙ lt_self (fin true m e)
  where
    add_is : (f : Format) (m : ℕ) (e : ℤ) (k b : ℕ) → sum f true (m * up e * k) true b (down e * k) ≡ round f true (m * up e * k + b) (down e * k)
    add_is f m e k b = unfold sum in refl
add_up f (fin false m e) (fin true n d) p h =
    ap (λ (z : Float). lt z (fin false m e)) (add_zero_pp f m e (down d) (n * up d * down e) (down_pos d) (zero-size n d e h) p) ∙ lt_self (fin false m e)

neg-not : (z : Float) → not_negative z ≡ not_positive (neg z)
unfolding neg
neg-not nan = refl
neg-not (inf s) = refl
neg-not (fin s m e) = refl

not-not : (b : Bool) → not (not b) ≡ b
not-not true = refl
not-not false = refl

neg_not' : (z : Float) → not_positive z ≡ not_negative (neg z)
unfolding neg
neg_not' nan = refl
neg_not' (inf s) = sym (not-not s)
neg_not' (fin s m e) = ap (λ (b : Bool). b || eqb m 0) (sym (not-not s))

pub sub_down : (f : Format) (x q : Float) → T (fits f x) → not_negative q ≡ true → lt x (sub f x q) ≡ false
unfolding sub
sub_down f x q p h = add_down f x (neg q) p (sym (neg-not q) ∙ h)

pub sub_up : (f : Format) (x q : Float) → T (fits f x) → not_positive q ≡ true → lt (sub f x q) x ≡ false
unfolding sub
sub_up f x q p h = add_up f x (neg q) p (sym (neg_not' q) ∙ h)
