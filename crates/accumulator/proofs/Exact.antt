-- The words of an accumulator mean the exact sum of the terms that it took, and a row is its single calls. Assumes nothing.
use Rattle.std.proofs.Common.{◌≡◌, ℕ, zero, suc, ◌+◌, ◌-◌, ◌*◌, ◌/◌, ◌%◌, ◌^◌, ◌<◌, ◌≤◌, Bool, true, false, cond, ◌&&◌, T, eqb, ltb, leb, List, [], ◌∷◌, Result, Ok, Err, ℤ, pos, negsuc, ◌+ℤ◌, ◌*ℤ◌, neg_ℤ, nat_abs, sym, refl, ap, ◌∙◌, subst, le_trans, le_refl, lt_of_le_of_lt, mul-le-mul_right, mod-lt, mod-eq_of_lt, mul-le-mul, div-add-mod', zero-mul, arith, ltb→lt, pow_mono, ltb-false, ltb-true, le-ltb, lt-ltb, leb-true}
use native.Mathlib.Nat.{mod-eq-sub-mod, mul-mod_left, add-mul-mod_self_right, div-le_of_le-mul}
use lib.IntN.{sub_ℕ}
use lib.Ieee.{Float, nan, inf, fin, binary64, fits, up, down}
use lib.Ieee.Fits.{and_r}
use Rattle.loops.specs.Loops.{turns, every}
use Rattle.loops.proofs.Every.{both_true, every-at}
use Rattle.floats.specs.Helpers.{is_finite}
use Rattle.floats.specs.Ops.{Fits, at}
use Rattle.floats.specs.Sqrt.{unit_count}
use Rattle.accumulator.specs.declared.Accumulator.{Accumulator}
use Rattle.refusals.specs.declared.Refusal.{Refusal}
use Rattle.refusals.specs.declared.Refusal.TheVariants.{NotFinite, ExactFull}
use Rattle.std.specs.Result.{is_ok, result_unwrap_or}
use Rattle.accumulator.specs.Accumulators.{value, words, size, half, meaning, residue, signed, units, free_term, product_term, added, EMPTY, with_free, with_product, add_free, add_product, shorter, both_finite, row_sum, row}
use Rattle.accumulator.specs.Meaning.{Term, free, product, Held, AllHeld, term, after, sum, Exact, singles, RowIsSingles}
use Rattle.accumulator.proofs.Values.{value-words, size_pos}
use Rattle.accumulator.proofs.Calls.{taken}

-- ---- whole numbers as differences: z is a - b

abbrev Is : ℤ → ℕ → ℕ → Type 0
Is (pos n) a b = n + b ≡ a
Is (negsuc n) a b = b ≡ a + suc n

is-sub : (m k a b : ℕ) → m + b ≡ a + k → Is (sub_ℕ m k) a b
is-sub m k a b e = go (ltb m k) refl
  where
    go : (t : Bool) → ltb m k ≡ t → Is (cond t (negsuc (k - suc m)) (pos (m - k))) a b
    go true h = omega (arith, e, ltb-true m k h)
    go false h = omega (arith, e, ltb-false m k h)

is-add : (x y : ℤ) (a b c d : ℕ) → Is x a b → Is y c d → Is (x +ℤ y) (a + c) (b + d)
is-add (pos m) (pos n) a b c d e f = omega (arith, e, f)
is-add (pos m) (negsuc n) a b c d e f = is-sub m (suc n) (a + c) (b + d) (omega (arith, e, f))
is-add (negsuc m) (pos n) a b c d e f = is-sub n (suc m) (a + c) (b + d) (omega (arith, e, f))
is-add (negsuc m) (negsuc n) a b c d e f = omega (arith, e, f)

-- ---- z and v are alike but for multiples of size

record Congruent (z : ℤ) (v : ℕ) : Type 0 where
  p : ℕ
  q : ℕ
  is : Is z (v + q * size) (p * size)
  small : v < size

plain : (n r q s : ℕ) → q * s + r ≡ n → n + 0 * s ≡ r + q * s
plain n r q s e = omega (arith, e)

opposite : (n r q s : ℕ) → q * s + r ≡ n → r < s → suc q * s ≡ s - suc r + 0 * s + suc n
opposite n r q s e h = omega (arith, e, h)

residue-is : (z : ℤ) → Congruent z (residue z)
unfolding residue
residue-is (pos n) = record { p = 0; q = n / size; is = plain n (n % size) (n / size) size (div-add-mod' n size); small = mod-lt n size_pos }
residue-is (negsuc n) =
    record { p = suc (n / size); q = 0; is = opposite n (n % size) (n / size) size (div-add-mod' n size) (mod-lt n size_pos); small = omega (arith, size_pos) }

gathered : (v w q t s r k : ℕ) → k * s + r ≡ w + v → v + q * s + (w + t * s) ≡ r + (k + q + t) * s
gathered v w q t s r k e = omega (arith, e)

multiples : (p t s : ℕ) → p * s + t * s ≡ (p + t) * s
multiples p t s = omega arith

congruent-add : (x y : ℤ) (v w : ℕ) → Congruent x v → Congruent y w → Congruent (x +ℤ y) ((w + v) % size)
congruent-add x y v w f g =
    let k = (w + v) / size in
    let a : v + f.q * size + (w + g.q * size) ≡ (w + v) % size + (k + f.q + g.q) * size = gathered v w f.q g.q size ((w + v) % size) k (div-add-mod' (w + v) size) in
    record {
      p = f.p + g.p;
      q = k + f.q + g.q;
      is = subst (λ (b : ℕ). Is (x +ℤ y) ((w + v) % size + (k + f.q + g.q) * size) b) (multiples f.p g.p size) (subst (λ (c : ℕ). Is (x +ℤ y) c (f.p * size + g.p * size)) a (is-add x y (v + f.q * size) (f.p * size) (w + g.q * size) (g.p * size) f.is g.is));
      small = mod-lt (w + v) size_pos;
    }

-- ---- the number of a number's words

added-value : (l : List ℕ) (t : ℤ) → value (added l t) ≡ (value l + residue t) % size
unfolding added
added-value l t = value-words ((value l + residue t) % size) ∙ mod-eq_of_lt (mod-lt (value l + residue t) size_pos)

-- ---- magnitudes

nought : (n : ℕ) → 0 ≤ n
nought n = omega arith

sub-bound : (m k : ℕ) → nat_abs (sub_ℕ m k) ≤ m + k
sub-bound m k = go (ltb m k) refl
  where
    go : (t : Bool) → ltb m k ≡ t → nat_abs (cond t (negsuc (k - suc m)) (pos (m - k))) ≤ m + k
    go true h = omega (arith, ltb-true m k h)
    go false h = omega arith

add-bound : (x y : ℤ) → nat_abs (x +ℤ y) ≤ nat_abs x + nat_abs y
add-bound (pos m) (pos n) = le_refl (m + n)
add-bound (pos m) (negsuc n) = sub-bound m (suc n)
add-bound (negsuc m) (pos n) = omega (arith, sub-bound n (suc m))
add-bound (negsuc m) (negsuc n) = omega arith

neg-abs : (n : ℕ) → nat_abs (neg_ℤ (pos n)) ≡ n
neg-abs zero = refl
neg-abs (suc n) = refl

mul-abs : (x y : ℤ) → nat_abs (x *ℤ y) ≡ nat_abs x * nat_abs y
mul-abs (pos a) (pos b) = refl
mul-abs (pos a) (negsuc b) = neg-abs (a * suc b)
mul-abs (negsuc a) (pos b) = neg-abs (suc a * b)
mul-abs (negsuc a) (negsuc b) = refl

signed-abs : (s : Bool) (n : ℕ) → nat_abs (signed s n) ≡ n
signed-abs false n = refl
signed-abs true n = neg-abs n

moved : (x y z d : ℕ) → x * y ≡ z → x * d * y ≡ d * z
moved x y z d e = let f : d * (x * y) ≡ d * z = ap (λ (w : ℕ). d * w) e in omega (arith, f)

count-bound : (m : ℕ) (e : ℤ) → m * up e ≤ 2 ^ 1024 * down e → unit_count m e ≤ 2 ^ 2098
count-bound m e h =
    let g : m * up e * 2 ^ 1074 ≤ 2 ^ 1024 * down e * 2 ^ 1074 = mul-le-mul_right (2 ^ 1074) h in
    div-le_of_le-mul (down e) (subst (λ (x : ℕ). m * up e * 2 ^ 1074 ≤ x) (moved (2 ^ 1024) (2 ^ 1074) (2 ^ 2098) (down e) refl) g)

held-bound : (m : ℕ) (e : ℤ) (s : Bool) → T (fits binary64 (fin s m e)) → m * up e ≤ 2 ^ 1024 * down e
unfolding fits
held-bound zero e s h = rw (zero-mul (up e)) (nought (2 ^ 1024 * down e))
held-bound (suc m) e s h = lt-le (ltb→lt (suc m * up e) (2 ^ 1024 * down e) (and_r (eqb (suc m % 2) 1 && ltb (suc m) (2 ^ 53) && leb (down e) (2 ^ 1074)) (ltb (suc m * up e) (2 ^ 1024 * down e)) h))
  where
    lt-le : {a b : ℕ} → a < b → a ≤ b
    lt-le g = omega (arith, g)

units-bound : (v : Float) → Fits v → nat_abs (units v) ≤ 2 ^ 2098
unfolding units
units-bound nan h = nought (2 ^ 2098)
units-bound (inf s) h = nought (2 ^ 2098)
units-bound (fin s m e) h = rw (signed-abs s (unit_count m e)) (count-bound m e (held-bound m e s h))

abbrev largest_term : ℕ
largest_term = 2 ^ 2098 * 2 ^ 2098

term-bound : (t : Term) → Held t → nat_abs (term t) ≤ largest_term
unfolding free_term product_term
term-bound (free u) h = rw (mul-abs (units u) (pos (2 ^ 1074))) (mul-le-mul (units-bound u h) (pow_mono (leb-true 1074 2098 refl)))
term-bound (product w v) h = rw (mul-abs (units w) (units v)) (mul-le-mul (units-bound w h.0) (units-bound v h.1))

-- ---- what holds of an accumulator that took terms of the sum z

abbrev one : Bool → ℕ
one true = 1
one false = 0

record State (a : Accumulator) (z : ℤ) : Type 0 where
  like : Congruent z (value a.words)
  near : nat_abs z ≤ (a.products + one a.free) * largest_term
  few : a.products ≤ 32

abbrev free_answer : Accumulator → Float → Bool → Bool → Result Accumulator Refusal
free_answer a u full fit = cond full (Err ExactFull) (cond fit (Ok (with_free a u)) (Err NotFinite))

abbrev product_answer : Accumulator → Float → Float → Bool → Bool → Result Accumulator Refusal
product_answer a w v room fit = cond room (cond fit (Ok (with_product a w v)) (Err NotFinite)) (Err ExactFull)

larger : (a b c n m : ℕ) → a ≤ b + c → b ≤ m → c ≤ n * m → a ≤ (n + 1) * m
larger a b c n m e f g = omega (arith, e, f, g)

module _ (a : Accumulator) (z : ℤ) (s : State a z) where
  took : (l : List ℕ) (n : ℕ) (f : Bool) (x : ℤ) → nat_abs x ≤ largest_term → l ≡ added a.words x → n + one f ≡ a.products + one a.free + 1 → n ≤ 32 → State (record { words = l; products = n; free = f }) (x +ℤ z)
  took l n f x h e c k =
      record {
        like = subst (λ (v : ℕ). Congruent (x +ℤ z) v) (sym (ap value e ∙ added-value a.words x)) (congruent-add x z (residue x) (value a.words) (residue-is x) s.like);
        near = subst (λ (i : ℕ). nat_abs (x +ℤ z) ≤ i * largest_term) (sym c) (larger (nat_abs (x +ℤ z)) (nat_abs x) (nat_abs z) (a.products + one a.free) largest_term (add-bound x z) h s.near);
        few = k;
      }

  free_step : (u : Float) → Fits u → State (result_unwrap_or (add_free a u) a) (cond (is_ok (add_free a u)) (free_term u +ℤ z) z)
  unfolding add_free with_free
  free_step u h = go a.free refl (is_finite u)
    where
      go : (f : Bool) → a.free ≡ f → (b : Bool) → State (result_unwrap_or (free_answer a u f b) a) (cond (is_ok (free_answer a u f b)) (free_term u +ℤ z) z)
      go true e b = s
      go false e false = s
      go false e true = took (added a.words (free_term u)) a.products true (free_term u) (term-bound (free u) h) refl (rw e (omega arith)) s.few

  product-step : (w v : Float) → Fits w → Fits v → State (result_unwrap_or (add_product a w v) a) (cond (is_ok (add_product a w v)) (product_term w v +ℤ z) z)
  unfolding add_product with_product
  product-step w v g h = go (ltb a.products 32) refl (is_finite w && is_finite v)
    where
      go : (f : Bool) → ltb a.products 32 ≡ f → (b : Bool) → State (result_unwrap_or (product_answer a w v f b) a) (cond (is_ok (product_answer a w v f b)) (product_term w v +ℤ z) z)
      go false e b = s
      go true e false = s
      go true e true = took (added a.words (product_term w v)) (a.products + 1) a.free (product_term w v) (term-bound (product w v) (g, h)) refl (omega arith) (omega (arith, ltb-true a.products 32 e))

empty-state : State EMPTY (pos 0)
unfolding EMPTY
empty-state =
    record {
      like = record { p = 0; q = 0; is = refl-zero; small = subst (λ (x : ℕ). x < size) (sym (value-words 0 ∙ mod-eq_of_lt size_pos)) size_pos };
      near = nought ((0 + one false) * largest_term);
      few = nought 32;
    }
  where
    refl-zero : 0 + 0 * size ≡ value (words 0) + 0 * size
    refl-zero = ap (λ (x : ℕ). x + 0 * size) (sym (value-words 0 ∙ mod-eq_of_lt size_pos))

state_of : (l : List Term) → AllHeld l → State (after l) (sum l)
unfolding after sum
state_of [] h = empty-state
state_of (free u ∷ l) h = free_step (after l) (sum l) (state_of l h.1) u h.0
state_of (product w v ∷ l) h = product-step (after l) (sum l) (state_of l h.1) w v h.0.0 h.0.1

-- ---- two's complement

two_halves : size ≡ half + half
unfolding size half
two_halves = refl

fits-half : (n k : ℕ) → n ≤ k * largest_term → k ≤ 33 → n < half
unfolding half
fits-half n k h g = lt_of_le_of_lt (le_trans h (mul-le-mul_right largest_term g)) (ltb→lt (33 * largest_term) (2 ^ 4287) tt)

opposites : (x s : ℕ) → 0 < x → x < s + s → x % s ≡ 0 → x ≡ s
opposites x s h g e = go (ltb x s) refl
  where
    nothing : x ≡ 0 → ⊥
    nothing z = omega (arith, z, h)

    rest : s ≤ x → x - s < s
    rest k = omega (arith, k, g)

    all : s ≤ x → x - s ≡ 0 → x ≡ s
    all k z = omega (arith, k, z)

    go : (t : Bool) → ltb x s ≡ t → x ≡ s
    go true l = absurd (nothing (sym (mod-eq_of_lt (ltb-true x s l)) ∙ e))
    go false l = let k : s ≤ x = ltb-false x s l in all k (sym (mod-eq-sub-mod k ∙ mod-eq_of_lt (rest k)) ∙ e)

meant : (l : List ℕ) (z : ℤ) → Congruent z (value l) → nat_abs z < half → meaning l ≡ z
unfolding meaning
meant l (pos n) c h =
    let a : n < size = omega (arith, h, two_halves) in
    let e : value l ≡ n = sym (sym (mod-eq_of_lt a) ∙ sym (add-mul-mod_self_right n c.p size) ∙ ap (λ (x : ℕ). x % size) c.is ∙ add-mul-mod_self_right (value l) c.q size ∙ mod-eq_of_lt c.small) in
    rw (e, lt-ltb n half h)
meant l (negsuc n) c h =
    let v = value l in
    let m : (v + suc n) % size ≡ 0 = sym (add-mul-mod_self_right (v + suc n) c.q size) ∙ ap (λ (x : ℕ). x % size) (regroup v (c.q * size) (suc n) ∙ sym c.is) ∙ mul-mod_left c.p size in
    let e : v + suc n ≡ size = opposites (v + suc n) size (omega arith) (omega (arith, c.small, h, two_halves)) m in
    let d : size - v ≡ suc n = omega (arith, e) in
    rw (le-ltb v half (omega (arith, e, h, two_halves)), d)
  where
    regroup : (v q n : ℕ) → v + n + q ≡ v + q + n
    regroup v q n = omega arith

at_most_one : (f : Bool) → one f ≤ 1
at_most_one true = omega arith
at_most_one false = omega arith

pub exact : Exact
exact l h =
    let s = state_of l h in
    meant (after l).words (sum l) s.like (fits-half (nat_abs (sum l)) ((after l).products + one (after l).free) s.near (omega (arith, s.few, at_most_one (after l).free)))

-- ---- a row is its single calls

module _ (u : Float) (w nu : List Float) (few : shorter w nu ≤ 32) (first : is_finite u ≡ true) (all : every (both_finite w nu) (shorter w nu) ≡ true) where
  singles_are : (k : ℕ) → k ≤ shorter w nu → singles u w nu k ≡ Ok (row_sum u w nu k)
  unfolding singles row_sum turns add_free both_finite EMPTY
  singles_are zero h = rw first
  singles_are (suc k) h =
      let more : k < shorter w nu = omega (arith, h) in
      let f : is_finite (at w k) && is_finite (at nu k) ≡ true = every-at (both_finite w nu) (shorter w nu) all k more in
      rw (singles_are k (omega (arith, h))) (taken u w nu few k more f)

pub row-is-singles : RowIsSingles
unfolding row
row-is-singles u w nu a h = go (leb n 32) refl (is_finite u && every (both_finite w nu) n) refl h
  where
    n : ℕ
    n = shorter w nu

    go : (b : Bool) → leb n 32 ≡ b → (c : Bool) → is_finite u && every (both_finite w nu) n ≡ c
        → ◌≡◌ {A = Result Accumulator Refusal} (cond b (cond c (Ok (row_sum u w nu n)) (Err NotFinite)) (Err ExactFull)) (Ok a) → singles u w nu n ≡ Ok a
    go false e c f g = cc
    go true e false f g = cc
    go true e true f g = let x = both_true (is_finite u) (every (both_finite w nu) n) f in singles_are u w nu (leb-true n 32 e) x.0 x.1 n (le_refl n) ∙ g
