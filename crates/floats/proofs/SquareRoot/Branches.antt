-- The cases of `sqrt`: which values each of its tests leaves. Assumes nothing.
use mathlib.Core.Path.{◌≡◌, refl, sym, ap, ◌∙◌, subst}
use mathlib.Core.Logic.{inl, inr}
use Prim.Native.Nat.{ℕ, zero, suc, ◌+◌, ◌*◌, ◌/◌, ◌%◌, ◌≤◌, ◌<◌}
use native.Mathlib.Nat.{eq-zero-or-pos, le_antisymm, zero-mul, mul-one, mul-pos, zero-lt-suc, lt_irrefl, lt_of_lt_of_le, mod-eq_of_lt}
use native.Mathlib.Omega.{arith}
use mathlib.Core.Bool.{Bool, true, false, not, ◌&&◌, ◌||◌, beq, cond, true≢false}
use lib.IntN.{ℤ}
use lib.Dec.{T, leb, ltb, eqb, le→leb, nltb→le, eqb→eq, leb→le, nleb→lt}
use lib.Arith.{le→nltb}
use borrow.Author.Tests.{ltb-false}
use lib.Ieee.{Float, nan, inf, fin, binary64, up, down, odd, of_fields, of_bits, to_bits, nan_bits, is_nan, fits, lt, eq}
use lib.Ieee.Bits.{is_true, of_bits-to_bits, nan_bits_is, nan_bits_above}
use lib.Ieee.Fits.{up_pos, and_l}
use Rattle.floats.specs.Sqrt.{sqrt}
use Rattle.floats.proofs.SquareRoot.Patterns.{hidden_bit, sign_bit}
use Rattle.floats.proofs.SquareRoot.Normal.{infinity_bits}

-- 0.0, as the code has it
abbrev pub zero_float : Float
zero_float = of_bits binary64 0

not-both : {A : Type 0} {b : Bool} → b ≡ true → b ≡ false → A
not-both p q = absurd (true≢false (sym p ∙ q))

-- ---- v > 0.0

pub no_nan : (v : Float) → lt zero_float v ≡ true → T (not (is_nan v))
unfolding lt is_nan of_bits
no_nan nan h = absurd (true≢false (sym h))
no_nan (inf s) h = tt
no_nan (fin s m e) h = tt

zero-not-above : lt zero_float zero_float ≡ false
unfolding lt of_bits
zero-not-above = refl

pub bits_pos : (v : Float) → T (fits binary64 v) → lt zero_float v ≡ true → 0 < to_bits binary64 v
bits_pos v f h = elim (eq-zero-or-pos (to_bits binary64 v)) [
  | inl z ↦ not-both (ap (λ (x : Float). lt zero_float x) (ap (of_bits binary64) (sym z) ∙ of_bits-to_bits binary64 v f) ∙ h) zero-not-above
  | inr p ↦ p
]

-- a pattern from 2 ^ 63 up has the sign
odd-below : (q k : ℕ) → lt zero_float (odd 53 true q k 1074) ≡ false
unfolding lt odd of_bits
odd-below zero k = refl
odd-below (suc q) k = refl

below-zero : (x t : ℕ) → lt zero_float (of_fields binary64 true x t) ≡ false
unfolding lt of_fields of_bits
below-zero zero t = odd-below t 0
below-zero (suc x) t = go (eqb (suc x) 2047) (eqb t 0)
  where
    go : (a b : Bool) → lt zero_float (cond a (cond b (inf true) nan) (odd 53 true (hidden_bit + t) x 1074)) ≡ false
    go true true = refl
    go true false = refl
    go false b = odd-below (hidden_bit + t) x

signed : (b : ℕ) → sign_bit ≤ b → lt zero_float (of_bits binary64 b) ≡ false
unfolding of_bits
signed b h = ap (λ (s : Bool). lt zero_float (of_fields binary64 s (b % sign_bit / hidden_bit) (b % hidden_bit))) (is_true (leb sign_bit b) (le→leb sign_bit b h)) ∙ below-zero (b % sign_bit / hidden_bit) (b % hidden_bit)

-- from the infinity's pattern on there is, of the values above zero, only the infinity
inf-is : of_bits binary64 infinity_bits ≡ inf false
unfolding of_bits
inf-is = refl

sqrt_inf : sqrt (inf false) ≡ inf false
unfolding sqrt
sqrt_inf = refl

at_most : (b : ℕ) → b < sign_bit → T (not (is_nan (of_bits binary64 b))) → b ≤ infinity_bits
at_most b h n = nltb→le infinity_bits b (subst (λ (t : Bool). T (not t)) (sym (nan_bits_is binary64 b) ∙ nan_bits_above binary64 b ∙ ap (λ (x : ℕ). ltb infinity_bits x) (mod-eq_of_lt h)) n)

is_inf : (b : ℕ) → infinity_bits ≤ b → lt zero_float (of_bits binary64 b) ≡ true → of_bits binary64 b ≡ inf false
is_inf b h k = go (leb sign_bit b) (leb→le sign_bit b) (nleb→lt sign_bit b)
  where
    go : (t : Bool) → (T t → sign_bit ≤ b) → (T (not t) → b < sign_bit) → of_bits binary64 b ≡ inf false
    go true a c = not-both k (signed b (a tt))
    go false a c = ap (of_bits binary64) (le_antisymm (at_most b (c tt) (no_nan (of_bits binary64 b) k)) h) ∙ inf-is

pub inf_only : (v : Float) → T (fits binary64 v) → lt zero_float v ≡ true → infinity_bits ≤ to_bits binary64 v → v ≡ inf false
inf_only v f h k =
    let e : of_bits binary64 (to_bits binary64 v) ≡ v = of_bits-to_bits binary64 v f in
    sym e ∙ is_inf (to_bits binary64 v) k (ap (λ (x : Float). lt zero_float x) e ∙ h)

pub from_inf : (v : Float) → T (fits binary64 v) → lt zero_float v ≡ true → infinity_bits ≤ to_bits binary64 v → v ≡ sqrt v
from_inf v f h k = let i = inf_only v f h k in i ∙ sym sqrt_inf ∙ ap sqrt (sym i)

-- the pattern of a finite positive value is no NaN's
pub finite_bits : (b : ℕ) → b < infinity_bits → T (not (nan_bits binary64 b))
finite_bits b h =
    let s : b < sign_bit = omega arith in
    subst (λ (t : Bool). T (not t)) (sym (nan_bits_above binary64 b ∙ ap (λ (x : ℕ). ltb infinity_bits x) (mod-eq_of_lt s))) (le→nltb infinity_bits b (omega arith))

-- ---- v == 0.0

nothing : (m : ℕ) (e : ℤ) → suc m * up e * 1 ≡ 0 * 1 * down e → ⊥
nothing m e h = lt_irrefl 0 (subst (λ (x : ℕ). 0 < x) (sym (mul-one (suc m * up e)) ∙ h ∙ ap (λ (x : ℕ). x * down e) (zero-mul 1) ∙ zero-mul (down e)) (mul-pos (zero-lt-suc m) (up_pos e)))

pub at_zero : (v : Float) → eq v zero_float ≡ true → v ≡ sqrt v
unfolding eq sqrt of_bits
at_zero nan h = absurd (true≢false (sym h))
at_zero (inf s) h = absurd (true≢false (sym h))
at_zero (fin s zero e) h = refl
at_zero (fin s (suc m) e) h = absurd (nothing m e (eqb→eq (suc m * up e * 1) (0 * 1 * down e) (and_l (eqb (suc m * up e * 1) (0 * 1 * down e)) (beq s false || eqb (suc m * up e * 1) 0) (subst T (sym h) tt))))

-- ---- neither

clash : (s : Bool) (a b : ℕ) → a ≡ 0 → b ≡ 0 → (eqb a b && (beq s false || eqb a 0)) ≡ false → ⊥
clash s a b p q h =
    go s (subst (λ (x : ℕ). (eqb x 0 && (beq s false || eqb x 0)) ≡ false) p (subst (λ (y : ℕ). (eqb a y && (beq s false || eqb a 0)) ≡ false) q h))
  where
    go : (s : Bool) → (eqb 0 0 && (beq s false || eqb 0 0)) ≡ false → ⊥
    go true h = true≢false h
    go false h = true≢false h

none : (e : ℤ) → 0 * 1 * down e ≡ 0
none e = zero-mul (down e)

pub neither : (v : Float) → lt zero_float v ≡ false → eq v zero_float ≡ false → of_bits binary64 0x7FF8000000000000 ≡ sqrt v
unfolding lt eq sqrt of_bits
neither nan h k = refl
neither (inf true) h k = refl
neither (inf false) h k = absurd (true≢false h)
neither (fin s zero e) h k = absurd (clash s (0 * up e * 1) (0 * 1 * down e) (ap (λ (x : ℕ). x * 1) (zero-mul (up e))) (none e) k)
neither (fin true (suc m) e) h k = refl
neither (fin false (suc m) e) h k =
    absurd (lt_irrefl 0 (lt_of_lt_of_le (subst (λ (x : ℕ). 0 < x) (sym (mul-one (suc m * up e))) (mul-pos (zero-lt-suc m) (up_pos e))) (subst (λ (x : ℕ). suc m * up e * 1 ≤ x) (none e) (ltb-false (0 * 1 * down e) (suc m * up e * 1) h))))
