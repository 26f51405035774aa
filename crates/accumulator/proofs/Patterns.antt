-- The bit patterns of the finite values of binary64 as whole numbers of 2 ^ -1074. Assumes nothing.
use Rattle.std.proofs.Common.{◌≡◌, ℕ, suc, ◌+◌, ◌-◌, ◌*◌, ◌/◌, ◌%◌, ◌^◌, ◌<◌, ◌≤◌, Bool, true, false, cond, not, T, eqb, leb, ℤ, sym, refl, ap, ◌∙◌, subst, true≢false, lt_of_not-le, zero-add, mul-div_cancel, arith, leb-true, leb-false}
use borrow.Author.Tests.{lt-leb, le-leb, ne_eqb}
use lib.Ieee.{Float, nan, inf, fin, binary64, up, down, odd, of_fields, of_bits, to_bits, is_nan, fits}
use lib.Ieee.Bits.{of_bits-to_bits, to_bits-lt}
use lib.Ieee.Exact.{HasValue, odd_sign}
use lib.Ieee.Fits.{down_pos}
use Rattle.floats.specs.Helpers.{is_finite}
use Rattle.floats.specs.Sqrt.{unit_count}
use Rattle.floats.proofs.Meaning.{is_fin, is-finite}
use Rattle.accumulator.specs.Accumulators.{units, signed}
use Rattle.accumulator.specs.Steps.{pattern, Scales}
use Rattle.accumulator.specs.declared.term.Scaled.{Scaled}

-- 2 ^ 52 and 2 ^ 63
abbrev hidden_bit : ℕ
hidden_bit = 4503599627370496

abbrev sign_bit : ℕ
sign_bit = 9223372036854775808

-- ---- the fields of a pattern

alike : (s s' : Bool) (x x' t t' : ℕ) → s ≡ s' → x ≡ x' → t ≡ t' → of_fields binary64 s x t ≡ of_fields binary64 s' x' t'
alike s s' x x' t t' p q r = cc

low_bit : (m : ℕ) → m < sign_bit → leb sign_bit (0 + m) ≡ false
low_bit m h = lt-leb sign_bit (0 + m) (omega (arith, h))

high_bit : (m : ℕ) → leb sign_bit (sign_bit + m) ≡ true
high_bit m = le-leb sign_bit (sign_bit + m) (omega arith)

fields_of : (s : Bool) (m : ℕ) → m < sign_bit → pattern s m ≡ of_fields binary64 s (m / hidden_bit) (m % hidden_bit)
unfolding of_bits
fields_of false m h = alike (leb sign_bit (0 + m)) false ((0 + m) % sign_bit / hidden_bit) (m / hidden_bit) ((0 + m) % hidden_bit) (m % hidden_bit) (low_bit m h) (omega (arith, h)) (omega (arith, h))
fields_of true m h = alike (leb sign_bit (sign_bit + m)) true ((sign_bit + m) % sign_bit / hidden_bit) (m / hidden_bit) ((sign_bit + m) % hidden_bit) (m % hidden_bit) (high_bit m) (omega (arith, h)) (omega (arith, h))

at_zero : (s : Bool) (t : ℕ) → of_fields binary64 s 0 t ≡ odd 53 s t 0 1074
unfolding of_fields
at_zero s t = refl

under_ones : (s : Bool) (x t : ℕ) → suc x < 2047 → of_fields binary64 s (suc x) t ≡ odd 53 s (hidden_bit + t) x 1074
unfolding of_fields
under_ones s x t h = rw (ne_eqb (suc x) 2047 (λ e. omega (arith, e, h))) refl

at_ones : (s : Bool) (t : ℕ) → is_fin (of_fields binary64 s 2047 t) ≡ false
unfolding of_fields
at_ones s t = go (eqb t 0)
  where
    go : (b : Bool) → is_fin (cond b (inf s) nan) ≡ false
    go true = refl
    go false = refl

-- ---- a value's units

count_of : (m : ℕ) (e : ℤ) (a : ℕ) → m * up e * 2 ^ 1074 ≡ a * down e → unit_count m e ≡ a
count_of m e a h = ap (λ (x : ℕ). x / down e) h ∙ mul-div_cancel a (down_pos e)

units_of_lem : (v : Float) (s : Bool) (a : ℕ) → HasValue v s a (2 ^ 1074) → units v ≡ signed s a
unfolding units
units_of_lem nan s a h = absurd h
units_of_lem (inf t) s a h = absurd h
units_of_lem (fin t m e) s a h = ap (λ (x : Bool). signed x (unit_count m e)) h.0 ∙ ap (λ (x : ℕ). signed s x) (count_of m e a h.1)

units_odd : (s : Bool) (q k : ℕ) → units (odd 53 s q k 1074) ≡ signed s (q * 2 ^ k)
units_odd s q k = units_of_lem (odd 53 s q k 1074) s (q * 2 ^ k) (odd_sign 53 s q k 1074)

-- ---- a magnitude's pattern as digits and places

pub small_scales : (s : Bool) (m : ℕ) → m < hidden_bit → Scales (pattern s m) (record { negative = s; digits = m; places = 0 })
small_scales s m h =
    let x : m / hidden_bit ≡ 0 = omega (arith, h) in
    let t : m % hidden_bit ≡ m = omega (arith, h) in
    let v : pattern s m ≡ odd 53 s m 0 1074 = fields_of s m (omega (arith, h)) ∙ alike s s (m / hidden_bit) 0 (m % hidden_bit) m refl x t ∙ at_zero s m in
    record { same = ap units v ∙ units_odd s m 0; short = omega (arith, h); low = omega arith }

pub large_scales : (s : Bool) (m : ℕ) → hidden_bit ≤ m → m < 0x7ff0000000000000
    → Scales (pattern s m) (record { negative = s; digits = m % hidden_bit + hidden_bit; places = m / hidden_bit - 1 })
large_scales s m g h =
    let k = m / hidden_bit - 1 in
    let x : m / hidden_bit ≡ suc k = omega (arith, g, h) in
    let l : suc k < 2047 = omega (arith, g, h) in
    let q : hidden_bit + m % hidden_bit ≡ m % hidden_bit + hidden_bit = omega arith in
    let v : pattern s m ≡ odd 53 s (hidden_bit + m % hidden_bit) k 1074 = fields_of s m (omega (arith, h)) ∙ alike s s (m / hidden_bit) (suc k) (m % hidden_bit) (m % hidden_bit) refl x refl ∙ under_ones s k (m % hidden_bit) l in
    record {
      same = ap units v ∙ units_odd s (hidden_bit + m % hidden_bit) k ∙ ap (λ (y : ℕ). signed s (y * 2 ^ k)) q;
      short = omega arith;
      low = omega (arith, l);
    }

-- ---- the pattern of a finite value

pub no_nan : (v : Float) → is_finite v ≡ true → T (not (is_nan v))
unfolding is_nan
no_nan nan h = absurd (true≢false (sym h ∙ is-finite nan))
no_nan (inf s) h = tt
no_nan (fin s m e) h = tt

pub not_infinite : (s : Bool) (m : ℕ) → m < sign_bit → is_finite (pattern s m) ≡ true → m < 0x7ff0000000000000
not_infinite s m h f = lt_of_not-le (λ g. true≢false (sym f ∙ is-finite (pattern s m) ∙ ap is_fin (fields_of s m h ∙ alike s s (m / hidden_bit) 2047 (m % hidden_bit) (m % hidden_bit) refl (omega (arith, g, h)) refl) ∙ at_ones s (m % hidden_bit)))

pub of-plus : (v : Float) → T (fits binary64 v) → pattern false (to_bits binary64 v) ≡ v
of-plus v h = ap (λ (x : ℕ). of_bits binary64 x) (zero-add (to_bits binary64 v)) ∙ of_bits-to_bits binary64 v h

pub of_minus : (v : Float) → T (fits binary64 v) → sign_bit ≤ to_bits binary64 v → pattern true (to_bits binary64 v - sign_bit) ≡ v
of_minus v h g =
    let e : sign_bit + (to_bits binary64 v - sign_bit) ≡ to_bits binary64 v = omega (arith, g) in
    ap (λ (x : ℕ). of_bits binary64 x) e ∙ of_bits-to_bits binary64 v h

-- the sign and the magnitude's pattern of the value v
module _ (v : Float) (held : T (fits binary64 v)) where
  pub parts : pattern (leb sign_bit (to_bits binary64 v)) (to_bits binary64 v % sign_bit) ≡ v
  parts = go (leb sign_bit (to_bits binary64 v)) refl
    where
      go : (s : Bool) → leb sign_bit (to_bits binary64 v) ≡ s → pattern s (to_bits binary64 v % sign_bit) ≡ v
      go false e =
          let m : to_bits binary64 v % sign_bit ≡ to_bits binary64 v = omega (arith, leb-false sign_bit (to_bits binary64 v) e) in
          ap (pattern false) m ∙ of-plus v held
      go true e =
          let h : sign_bit ≤ to_bits binary64 v = leb-true sign_bit (to_bits binary64 v) e in
          let m : to_bits binary64 v % sign_bit ≡ to_bits binary64 v - sign_bit = omega (arith, h, to_bits-lt binary64 v held) in
          ap (pattern true) m ∙ of_minus v held h

  pub magnitude-lt : is_finite v ≡ true → to_bits binary64 v % sign_bit < 0x7ff0000000000000
  magnitude-lt finite = not_infinite (leb sign_bit (to_bits binary64 v)) (to_bits binary64 v % sign_bit) (omega arith) (ap is_finite parts ∙ finite)

pub scales-at : (v w : Float) (x : Scaled) → v ≡ w → Scales v x → Scales w x
scales-at v w x e h = subst (λ (y : Float). Scales y x) e h
