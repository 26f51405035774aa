-- What the float helpers, written with comparisons, mean of a value's kind, sign bit and order.
use Prim.Native.Nat.{ℕ, zero, suc, ◌+◌, ◌-◌, ◌*◌, ◌%◌, ◌^◌, ◌≤◌, ◌<◌}
use mathlib.Core.Path.{◌≡◌, refl, sym, ◌∙◌, ap}
use mathlib.Core.Bool.{Bool, true, false, cond, ◌&&◌, and-false, true≢false}
use native.Mathlib.Omega.{arith}
use native.Mathlib.Nat.{mul-pos, zero-mul, zero-lt-suc, zero-add}
use lib.IntN.{ℤ}
use lib.Dec.{ltb, eqb, lit<}
use lib.Ieee.{Float, nan, inf, fin, binary64, up, down, top, fits, of_bits, to_bits, is_nan, neg, lt, le, eq, ne}
use lib.Ieee.Bits.{to_bits-lt}
use lib.Ieee.Fits.{up_pos}
use borrow.Author.Tests.{lt-ltb, le-ltb, ltb-true, ltb-false, eqb-true, eq-eqb, ne_eqb}
use Rattle.floats.specs.Ops.{0ᶠ, Fits}
use Rattle.floats.specs.Helpers.{larger, abs, nan_test, is_finite}
use Rattle.floats.proofs.Rank.{rank, zero_is, ticks, ticks-lt, middle}
use Rattle.floats.proofs.Order.{level_self, le_self, total, lt_self}
use Rattle.floats.proofs.Maximum.{larger-rank, not-zero}

-- ---- kinds

-- is_nan tells the NaN, which is one value here, from every number
pub nan_test_is_nan : (v : Float) → nan_test v ≡ is_nan v
unfolding nan_test is_nan ne eq
nan_test_is_nan nan = refl
nan_test_is_nan (inf true) = refl
nan_test_is_nan (inf false) = refl
nan_test_is_nan (fin s m e) = rw (level_self s (m * up e * down e))

-- there is one NaN
pub only_nan : (v : Float) → is_nan v ≡ true → v ≡ nan
unfolding is_nan
only_nan nan h = refl
only_nan (inf s) h = absurd (true≢false (sym h))
only_nan (fin s m e) h = absurd (true≢false (sym h))

abbrev pub is_fin : Float → Bool
is_fin nan = false
is_fin (inf s) = false
is_fin (fin s m e) = true

pub is-finite : (v : Float) → is_finite v ≡ is_fin v
unfolding is_finite lt of_bits
is-finite nan = refl
is-finite (inf true) = refl
is-finite (inf false) = refl
is-finite (fin s m e) = refl

-- ---- the sign bit

abbrev pub sign : Float → Bool
sign nan = false
sign (inf s) = s
sign (fin s m e) = s

-- the same value with the sign bit clear
abbrev pub unsigned : Float → Float
unsigned nan = nan
unsigned (inf s) = inf false
unsigned (fin s m e) = fin false m e

pub abs_is : (v : Float) → Fits v → abs v ≡ unsigned v
unfolding abs eq lt neg of_bits
abs_is nan h = refl
abs_is (inf true) h = refl
abs_is (inf false) h = refl
abs_is (fin true zero e) h = rw (zero_is binary64 true e h)
abs_is (fin false zero e) h = rw (zero_is binary64 false e h)
abs_is (fin true (suc m) e) h =
    let z = zero-mul (down e) in
    let p : 0 < suc m * up e * 1 = mul-pos (mul-pos (zero-lt-suc m) (up_pos e)) (zero-lt-suc 0) in
    rw (not-zero true m e, lt-ltb 0 (suc m * up e * 1 + 0 * 1 * down e) (omega arith))
abs_is (fin false (suc m) e) h =
    let z : 0 * 1 * down e ≡ 0 = zero-mul (down e) in
    rw (not-zero false m e, le-ltb (suc m * up e * 1) (0 * 1 * down e) (omega arith))

-- in bit patterns: the sign's weight is taken off, and nothing else
sign-first : (v : Float) → to_bits binary64 v ≡ cond (sign v) (top binary64) 0 + to_bits binary64 (unsigned v)
unfolding to_bits
sign-first nan = refl
sign-first (inf true) = refl
sign-first (inf false) = refl
sign-first (fin true m e) = plain (top binary64) _ _
  where
    plain : (a b c : ℕ) → a + b + c ≡ a + (0 + b + c)
    plain a b c = omega arith
sign-first (fin false m e) = sym (zero-add _)

any_sign : (s : Bool) (m : ℕ) (e : ℤ) → Fits (fin s m e) → Fits (fin true m e)
unfolding fits
any_sign s zero e h = h
any_sign s (suc m) e h = h

below_top : (v : Float) → Fits v → to_bits binary64 (unsigned v) < top binary64
unfolding to_bits
below_top nan h = lit< tt
below_top (inf s) h = lit< tt
below_top (fin s m e) h =
    let l = to_bits-lt binary64 (fin true m e) (any_sign s m e h) in
    let q = sign-first (fin true m e) in
    less (to_bits binary64 (fin true m e)) (to_bits binary64 (fin false m e)) q l
  where
    less : (a b : ℕ) → a ≡ top binary64 + b → a < 2 * top binary64 → b < top binary64
    less a b e h = omega arith

pub abs-bits : (v : Float) → Fits v → to_bits binary64 (abs v) ≡ to_bits binary64 v % 2 ^ 63
abs-bits v h = ap (to_bits binary64) (abs_is v h) ∙ sym (ap (λ (x : ℕ). x % 2 ^ 63) (sign-first v) ∙ go (sign v) (to_bits binary64 (unsigned v)) (below_top v h))
  where
    go : (b : Bool) (x : ℕ) → x < top binary64 → (cond b (top binary64) 0 + x) % 2 ^ 63 ≡ x
    go true x l = omega arith
    go false x l = omega arith

pub abs-not_negative : (v : Float) → Fits v → lt (abs v) 0ᶠ ≡ false
unfolding lt of_bits
abs-not_negative v h = rw (abs_is v h) (go v)
  where
    go : (v : Float) → lt (unsigned v) 0ᶠ ≡ false
    go nan = refl
    go (inf s) = refl
    go (fin s m e) = le-ltb (m * up e * 1) (0 * 1 * down e) (omega (arith, zero-mul (down e)))

-- ---- the larger of two

-- only the NaN has rank 0
nan-rank : (v : Float) → Fits v → is_nan v ≡ eqb (rank binary64 v) 0
unfolding is_nan rank
nan-rank nan h = refl
nan-rank (inf true) h = refl
nan-rank (inf false) h = sym (ne_eqb (suc (suc (suc (middle binary64 + middle binary64)))) 0 λ z. omega arith)
nan-rank (fin true m e) h = sym (ne_eqb (suc (middle binary64) - ticks binary64 m e) 0 λ z. omega (arith, ticks-lt binary64 true m e h))
nan-rank (fin false m e) h = sym (ne_eqb (suc (suc (middle binary64)) + ticks binary64 m e) 0 λ z. omega arith)

-- NaN exactly if both are
pub larger-nan : (x y : Float) → Fits x → Fits y → is_nan (larger x y) ≡ is_nan x && is_nan y
larger-nan x y p q =
    rw (larger-rank x y p q, nan-rank x p, nan-rank y q) (go (ltb (rank binary64 x) (rank binary64 y)) refl)
  where
    go : (b : Bool) → ltb (rank binary64 x) (rank binary64 y) ≡ b → is_nan (cond b y x) ≡ eqb (rank binary64 x) 0 && eqb (rank binary64 y) 0
    go true e = let l = ltb-true (rank binary64 x) (rank binary64 y) e in nan-rank y q ∙ rw (ne_eqb (rank binary64 y) 0 (λ (z : rank binary64 y ≡ 0). omega arith)) (sym (and-false (eqb (rank binary64 x) 0)))
    go false e = let l = ltb-false (rank binary64 x) (rank binary64 y) e in nan-rank x p ∙ pick (eqb (rank binary64 x) 0) refl l
      where
        pick : (c : Bool) → eqb (rank binary64 x) 0 ≡ c → rank binary64 y ≤ rank binary64 x → c ≡ c && eqb (rank binary64 y) 0
        pick true k l = let z = eqb-true (rank binary64 x) 0 k in rw (eq-eqb (rank binary64 y) 0 (omega arith))
        pick false k l = refl

pub larger_self : (x : Float) → Fits x → larger x x ≡ x
larger_self x p = larger-rank x x p p ∙ go (ltb (rank binary64 x) (rank binary64 x))
  where
    go : (b : Bool) → cond b x x ≡ x
    go true = refl
    go false = refl

larger-lt : (x y : Float) → eq x x ≡ true → eq y y ≡ true → lt x y ≡ true → larger x y ≡ y
unfolding larger ne
larger-lt x y i j k = rw (i, j, k)

not-nan : (v : Float) → is_nan v ≡ false → eq v v ≡ true
unfolding is_nan eq
not-nan nan h = absurd (true≢false h)
not-nan (inf true) h = refl
not-nan (inf false) h = refl
not-nan (fin s m e) h = level_self s (m * up e * down e)

-- a number is at most the larger of it and any other value; since `larger` is commutative, so is the other
pub larger-upper : (x y : Float) → Fits x → Fits y → eq x x ≡ true → le x (larger x y) ≡ true
larger-upper x y p q h = rw (larger-rank x y p q) (go (ltb (rank binary64 x) (rank binary64 y)) refl)
  where
    go : (b : Bool) → ltb (rank binary64 x) (rank binary64 y) ≡ b → le x (cond b y x) ≡ true
    go false e = le_self x h
    go true e =
        let l = ltb-true (rank binary64 x) (rank binary64 y) e in
        let j = not-nan y (nan-rank y q ∙ ne_eqb (rank binary64 y) 0 (λ (z : rank binary64 y ≡ 0). omega arith)) in
        total y x j h (pick j l (lt y x) refl)
      where
        pick : eq y y ≡ true → rank binary64 x < rank binary64 y → (c : Bool) → lt y x ≡ c → lt y x ≡ false
        pick j l false k = k
        pick j l true k =
            let m : x ≡ y = sym (larger-lt y x j h k) ∙ larger-rank y x q p ∙ rw (le-ltb (rank binary64 y) (rank binary64 x) (omega arith)) in
            absurd (true≢false (sym k ∙ rw m (lt_self y)))
