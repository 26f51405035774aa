-- Values that are zero or NaN, the sign of a quotient, and a multiplier on its bound that a step does not push inside: its distance from the clamped step is zero or NaN.
use Prim.Native.Nat.{ℕ, zero, suc, ◌+◌, ◌-◌, ◌*◌, ◌^◌, ◌<◌}
use mathlib.Core.Path.{◌≡◌, refl, sym, ◌∙◌, ap, subst}
use mathlib.Core.Bool.{Bool, true, false, not, cond, ◌&&◌, ◌||◌, true≢false}
use native.Mathlib.Omega.{arith}
use native.Mathlib.Nat.{mul-pos, zero-mul, zero-lt-suc}
use lib.IntN.{pos}
use lib.Dec.{T, eqb}
use lib.Pow.{pow_pos}
use lib.Ieee.{Float, nan, inf, fin, Format, binary64, prec, emax, low, up, down, unlike, fits, of_bits, round, sum, add, sub, div, neg, lt, le, eq, ne, level}
use lib.Ieee.Fits.{up_pos, down_pos, round-fits, sub-fits}
use lib.Ieee.Compare.{differs_from_itself}
use lib.Ieee.Exact.{round_exact}
use borrow.Author.Tests.{lt-ltb, le-ltb, eqb-true}
use Rattle.floats.specs.Ops.{◌⊖◌, ◌⊘◌, 0ᶠ, 1e-9, Fits}
use Rattle.floats.specs.Helpers.{clamp, abs}
use Rattle.floats.proofs.Order.{total, le_left, le_right, le-lt, lt-le, equal}
use Rattle.floats.proofs.Rounding.{value_unique, not_negative, not_positive, nonneg, nonneg-round, sub_down, sub_up, round-neg}

-- ---- zero or NaN

abbrev pub nil : Float → Bool
nil nan = true
nil (inf s) = false
nil (fin s m e) = eqb m 0

zero-fits : (f : Format) (s : Bool) → T (fits f (fin s 0 (pos 0)))
unfolding fits
zero-fits f s = tt

pub round-zero : (f : Format) (s : Bool) (c : ℕ) → 0 < c → round f s 0 c ≡ fin s 0 (pos 0)
round-zero f s c h =
    value_unique f s (round f s 0 c) (fin s 0 (pos 0)) 0 c h (round-fits f s 0 c) (zero-fits f s)
    (round_exact f s 0 c 0 0 h (pow_pos (prec f)) (pow_pos (low f + suc (emax f))) (zero-mul (2 ^ low f) ∙ sym (ap (λ (x : ℕ). x * c) (zero-mul (2 ^ 0)) ∙ zero-mul c)))
    (refl, zero-mul c)

nil-round : (f : Format) (s : Bool) (a c : ℕ) → 0 < c → a ≡ 0 → nil (round f s a c) ≡ true
nil-round f s a c h z = rw (z, round-zero f s c h)

first_true : (p q : Bool) → p && q ≡ true → p ≡ true
first_true true q k = refl
first_true false q k = k

same : (a b : ℕ) (x : Bool) → eqb a b && x ≡ true → a ≡ b
same a b x e = eqb-true a b (first_true (eqb a b) x e)

nil-sum : (f : Format) (s t : Bool) (a b c : ℕ) → 0 < c → level s a t b ≡ true → nil (sum f s a (not t) b c) ≡ true
unfolding sum
nil-sum f true true a b c h e = let g = same a b true e in rw (le-ltb a b (omega arith), le-ltb b a (omega arith)) (nil-round f false (a - b) c h (omega arith))
nil-sum f false false a b c h e = let g = same a b true e in rw (le-ltb a b (omega arith)) (nil-round f false (a - b) c h (omega arith))
nil-sum f true false a b c h e = go (eqb a b) refl (eqb a 0) refl e
  where
    go : (x : Bool) → eqb a b ≡ x → (y : Bool) → eqb a 0 ≡ y → x && y ≡ true → nil (round f true (a + b) c) ≡ true
    go true i true j k = let g = eqb-true a b i in let g' = eqb-true a 0 j in nil-round f true (a + b) c h (omega arith)
    go true i false j k = absurd (true≢false (sym k))
    go false i y j k = absurd (true≢false (sym k))
nil-sum f false true a b c h e = go (eqb a b) refl (eqb a 0) refl e
  where
    go : (x : Bool) → eqb a b ≡ x → (y : Bool) → eqb a 0 ≡ y → x && y ≡ true → nil (round f false (a + b) c) ≡ true
    go true i true j k = let g = eqb-true a b i in let g' = eqb-true a 0 j in nil-round f false (a + b) c h (omega arith)
    go true i false j k = absurd (true≢false (sym k))
    go false i y j k = absurd (true≢false (sym k))

-- the difference of equal numbers, or with a NaN
pub nil_minus : (f : Format) (x w : Float) → eq x w ≡ true → nil (sub f x w) ≡ true
unfolding eq sub add neg
nil_minus f nan w h = refl
nil_minus f (inf s) nan h = absurd (true≢false (sym h))
nil_minus f (inf true) (inf true) h = refl
nil_minus f (inf true) (inf false) h = absurd (true≢false (sym h))
nil_minus f (inf false) (inf true) h = absurd (true≢false (sym h))
nil_minus f (inf false) (inf false) h = refl
nil_minus f (inf s) (fin t n d) h = absurd (true≢false (sym h))
nil_minus f (fin s m e) nan h = absurd (true≢false (sym h))
nil_minus f (fin s m e) (inf t) h = absurd (true≢false (sym h))
nil_minus f (fin s m e) (fin t n d) h = nil-sum f s t (m * up e * down d) (n * up d * down e) (down e * down d) (mul-pos (down_pos e) (down_pos d)) h

nan_test_is_nan : (w : Float) → eq w w ≡ false → w ≡ nan
nan_test_is_nan w h = differs_from_itself w (unfold ne in subst (λ (b : Bool). T (not b)) (sym h) tt)

sub-nan : (f : Format) (x : Float) → nil (sub f x nan) ≡ true
unfolding sub add neg
sub-nan f nan = refl
sub-nan f (inf s) = refl
sub-nan f (fin s m e) = refl

pub nil_minus-nan : (f : Format) (x w : Float) → eq w w ≡ false → nil (sub f x w) ≡ true
nil_minus-nan f x w h = rw (nan_test_is_nan w h) (sub-nan f x)

nil-neg : (v : Float) → nil v ≡ true → nil (neg v) ≡ true
unfolding neg
nil-neg nan h = refl
nil-neg (inf s) h = h
nil-neg (fin s m e) h = h

pub nil-abs : (v : Float) → nil v ≡ true → nil (abs v) ≡ true
unfolding abs of_bits
nil-abs v h = go (eq v 0ᶠ) (lt v 0ᶠ)
  where
    go : (a b : Bool) → nil (cond a 0ᶠ (cond b (neg v) v)) ≡ true
    go true b = refl
    go false true = nil-neg v h
    go false false = h

pub nil-div : (f : Format) (v s : Float) → nil v ≡ true → nil (div f v s) ≡ true
unfolding div
nil-div f nan s h = refl
nil-div f (inf t) s h = absurd (true≢false (sym h))
nil-div f (fin s m e) nan h = refl
nil-div f (fin s m e) (inf t) h = refl
nil-div f (fin s m e) (fin t zero d) h = rw h
nil-div f (fin s m e) (fin t (suc n) d) h =
    rw (lib.Dec.eqb-suc-zero n)
    (nil-round f (unlike s t) (m * up e * down d) (suc n * up d * down e) (mul-pos (mul-pos (zero-lt-suc n) (up_pos d)) (down_pos e))
    (ap (λ (x : ℕ). x * up e * down d) (eqb-true m 0 h) ∙ ap (λ (x : ℕ). x * down d) (zero-mul (up e)) ∙ zero-mul (down d)))

small : (x v : Float) → nonneg x ≡ true → nil v ≡ true → lt x v ≡ false
unfolding lt
small nan v p h = refl
small (inf true) v p h = absurd (true≢false (sym p))
small (inf false) nan p h = refl
small (inf false) (inf t) p h = refl
small (inf false) (fin t n d) p h = refl
small (fin s m e) nan p h = refl
small (fin s m e) (inf t) p h = absurd (true≢false (sym h))
small (fin true m e) (fin t n d) p h = absurd (true≢false (sym p))
small (fin false m e) (fin true n d) p h = refl
small (fin false m e) (fin false n d) p h =
    let z : n * up d * down e ≡ 0 = ap (λ (x : ℕ). x * up d * down e) (eqb-true n 0 h) ∙ ap (λ (x : ℕ). x * down e) (zero-mul (up d)) ∙ zero-mul (down e) in
    le-ltb (m * up e * down d) (n * up d * down e) (omega arith)

pub nil-not-above : (v : Float) → nil v ≡ true → lt 1e-9 v ≡ false
nil-not-above v h = small 1e-9 v (unfold of_bits in refl) h

-- ---- signs of u and of u / W

abbrev pub above : Float → Bool
above nan = false
above (inf s) = not s
above (fin true m e) = false
above (fin false zero e) = false
above (fin false (suc m) e) = true

lt_above : (w : Float) → lt 0ᶠ w ≡ true → above w ≡ true
unfolding lt of_bits
lt_above nan h = h
lt_above (inf s) h = h
lt_above (fin true m e) h = h
lt_above (fin false zero e) h =
    let z : 0 * up e * 1 ≡ 0 = ap (λ (x : ℕ). x * 1) (zero-mul (up e)) in
    absurd (true≢false (sym h ∙ le-ltb (0 * 1 * down e) (0 * up e * 1) (omega arith)))
lt_above (fin false (suc m) e) h = refl

-- a row that is not Idle
pub acting-above : (w : Float) → ne w w || le w 0ᶠ ≡ false → above w ≡ true
acting-above w h = lt_above w (go (eq w w) refl (lt 0ᶠ w) refl (le w 0ᶠ) refl (unfold ne in h))
  where
    go : (a : Bool) → eq w w ≡ a → (b : Bool) → lt 0ᶠ w ≡ b → (c : Bool) → le w 0ᶠ ≡ c → not (eq w w) || le w 0ᶠ ≡ false → b ≡ true
    go false i b j c k g = absurd (true≢false (sym (ap (λ (x : Bool). not x || le w 0ᶠ) i) ∙ g))
    go true i true j c k g = refl
    go true i false j c k g = absurd (true≢false (sym (total 0ᶠ w (unfold eq of_bits in refl) i j) ∙ sym (ap (λ (x : Bool). not x || le w 0ᶠ) i) ∙ g))

pub not_lt_negative : (u : Float) → lt u 0ᶠ ≡ false → not_negative u ≡ true
unfolding lt of_bits
not_lt_negative nan h = refl
not_lt_negative (inf true) h = absurd (true≢false h)
not_lt_negative (inf false) h = refl
not_lt_negative (fin false m e) h = refl
not_lt_negative (fin true zero e) h = refl
not_lt_negative (fin true (suc m) e) h =
    let z : 0 < suc m * up e * 1 = mul-pos (mul-pos (zero-lt-suc m) (up_pos e)) (zero-lt-suc 0) in
    absurd (true≢false (sym (lt-ltb 0 (suc m * up e * 1 + 0 * 1 * down e) (omega arith)) ∙ h))

pub not_lt_positive : (u : Float) → lt 0ᶠ u ≡ false → not_positive u ≡ true
unfolding lt of_bits
not_lt_positive nan h = refl
not_lt_positive (inf true) h = refl
not_lt_positive (inf false) h = absurd (true≢false h)
not_lt_positive (fin true m e) h = refl
not_lt_positive (fin false zero e) h = refl
not_lt_positive (fin false (suc m) e) h =
    let z : 0 < suc m * up e * 1 = mul-pos (mul-pos (zero-lt-suc m) (up_pos e)) (zero-lt-suc 0) in
    let y : 0 * 1 * down e ≡ 0 = zero-mul (down e) in
    absurd (true≢false (sym (lt-ltb (0 * 1 * down e) (suc m * up e * 1) (omega arith)) ∙ h))

nonneg-not : (x : Float) → nonneg x ≡ true → not_negative x ≡ true
nonneg-not nan h = refl
nonneg-not (inf s) h = h
nonneg-not (fin s m e) h = ap (λ (b : Bool). b || eqb m 0) h

neg-not_positive : (x : Float) → nonneg x ≡ true → not_positive (neg x) ≡ true
unfolding neg
neg-not_positive nan h = refl
neg-not_positive (inf s) h = h
neg-not_positive (fin s m e) h = ap (λ (b : Bool). b || eqb m 0) h

nil-not_negative : (x : Float) → nil x ≡ true → not_negative x ≡ true
nil-not_negative nan h = refl
nil-not_negative (inf s) h = absurd (true≢false (sym h))
nil-not_negative (fin s m e) h = rw h (mathlib.Core.Bool.or-true (not s))

nil-not_positive : (x : Float) → nil x ≡ true → not_positive x ≡ true
nil-not_positive nan h = refl
nil-not_positive (inf s) h = absurd (true≢false (sym h))
nil-not_positive (fin s m e) h = rw h (mathlib.Core.Bool.or-true s)

pub div-not_negative : (f : Format) (u w : Float) → not_negative u ≡ true → above w ≡ true → not_negative (div f u w) ≡ true
unfolding div
div-not_negative f u nan h k = absurd (true≢false (sym k))
div-not_negative f u (inf true) h k = absurd (true≢false (sym k))
div-not_negative f nan (inf false) h k = refl
div-not_negative f (inf s) (inf false) h k = refl
div-not_negative f (fin s m e) (inf false) h k = mathlib.Core.Bool.or-true (not (unlike s false))
div-not_negative f u (fin true n d) h k = absurd (true≢false (sym k))
div-not_negative f u (fin false zero d) h k = absurd (true≢false (sym k))
div-not_negative f nan (fin false (suc n) d) h k = refl
div-not_negative f (inf true) (fin false (suc n) d) h k = absurd (true≢false (sym h))
div-not_negative f (inf false) (fin false (suc n) d) h k = refl
div-not_negative f (fin false m e) (fin false (suc n) d) h k = rw (lib.Dec.eqb-suc-zero n) (nonneg-not (round f false (m * up e * down d) (suc n * up d * down e)) (nonneg-round f (m * up e * down d) (suc n * up d * down e)))
div-not_negative f (fin true m e) (fin false (suc n) d) h k =
    nil-not_negative (div f (fin true m e) (fin false (suc n) d)) (nil-div f (fin true m e) (fin false (suc n) d) h)

pub div-not_positive : (f : Format) (u w : Float) → not_positive u ≡ true → above w ≡ true → not_positive (div f u w) ≡ true
unfolding div
div-not_positive f u nan h k = absurd (true≢false (sym k))
div-not_positive f u (inf true) h k = absurd (true≢false (sym k))
div-not_positive f nan (inf false) h k = refl
div-not_positive f (inf s) (inf false) h k = refl
div-not_positive f (fin s m e) (inf false) h k = mathlib.Core.Bool.or-true (unlike s false)
div-not_positive f u (fin true n d) h k = absurd (true≢false (sym k))
div-not_positive f u (fin false zero d) h k = absurd (true≢false (sym k))
div-not_positive f nan (fin false (suc n) d) h k = refl
div-not_positive f (inf false) (fin false (suc n) d) h k = absurd (true≢false (sym h))
div-not_positive f (inf true) (fin false (suc n) d) h k = refl
div-not_positive f (fin true m e) (fin false (suc n) d) h k = rw (lib.Dec.eqb-suc-zero n) (rw (round-neg f false (m * up e * down d) (suc n * up d * down e)) (neg-not_positive (round f false (m * up e * down d) (suc n * up d * down e)) (nonneg-round f (m * up e * down d) (suc n * up d * down e))))
div-not_positive f (fin false m e) (fin false (suc n) d) h k =
    nil-not_positive (div f (fin false m e) (fin false (suc n) d)) (nil-div f (fin false m e) (fin false (suc n) d) h)

-- ---- a multiplier on its bound

module _ (lo hi u w : Float) (p : Fits lo) (q : Fits hi) (b : le lo hi ≡ true) (a : above w ≡ true) where
  pub nil-lo : not_negative u ≡ true → nil (lo ⊖ clamp (lo ⊖ u ⊘ w) lo hi) ≡ true
  unfolding clamp
  nil-lo h = go (lo ⊖ u ⊘ w) (sub-fits binary64 lo (u ⊘ w)) (sub_down binary64 lo (u ⊘ w) p (div-not_negative binary64 u w h a))
    where
      go : (v : Float) → Fits v → lt lo v ≡ false → nil (lo ⊖ cond (lt v lo) lo (cond (lt hi v) hi v)) ≡ true
      go v r e = pick (lt v lo) refl (lt hi v) refl (eq v v) refl
        where
          pick : (x : Bool) → lt v lo ≡ x → (y : Bool) → lt hi v ≡ y → (z : Bool) → eq v v ≡ z → nil (lo ⊖ cond x lo (cond y hi v)) ≡ true
          pick true i y j z k = nil_minus binary64 lo lo (le_left lo hi b)
          pick false i true j z k = absurd (true≢false (sym (le-lt binary64 lo hi v p q r b j) ∙ e))
          pick false i false j true k = nil_minus binary64 lo v (equal lo v (le_left lo hi b) k e i)
          pick false i false j false k = nil_minus-nan binary64 lo v k

  pub nil-hi : not_positive u ≡ true → nil (hi ⊖ clamp (hi ⊖ u ⊘ w) lo hi) ≡ true
  unfolding clamp
  nil-hi h = go (hi ⊖ u ⊘ w) (sub-fits binary64 hi (u ⊘ w)) (sub_up binary64 hi (u ⊘ w) q (div-not_positive binary64 u w h a))
    where
      go : (v : Float) → Fits v → lt v hi ≡ false → nil (hi ⊖ cond (lt v lo) lo (cond (lt hi v) hi v)) ≡ true
      go v r e = pick (lt v lo) refl (lt hi v) refl (eq v v) refl
        where
          pick : (x : Bool) → lt v lo ≡ x → (y : Bool) → lt hi v ≡ y → (z : Bool) → eq v v ≡ z → nil (hi ⊖ cond x lo (cond y hi v)) ≡ true
          pick true i y j z k = absurd (true≢false (sym (lt-le binary64 v lo hi r p q i b) ∙ e))
          pick false i true j z k = nil_minus binary64 hi hi (le_right lo hi b)
          pick false i false j true k = nil_minus binary64 hi v (equal hi v (le_right lo hi b) k j e)
          pick false i false j false k = nil_minus-nan binary64 hi v k
