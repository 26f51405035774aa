-- The claim's own words against the solver's definitions: a magnitude, a row's sum and natural residual by the places of the matrix, a row that acts, and the rows listed.
use Prim.Native.Nat.{ℕ, zero, suc, ◌+◌, ◌*◌, ◌≤◌, ◌<◌}
use mathlib.Core.Path.{◌≡◌, refl, sym, ◌∙◌, ap}
use mathlib.Core.Bool.{Bool, true, false, not, cond, ◌||◌, true≢false}
use mathlib.Core.List.{List, [], ◌∷◌}
use native.Mathlib.Omega.{arith}
use native.Mathlib.Nat.{mul-pos, zero-mul, zero-lt-suc, not-suc-le-zero, le_of_suc-le-suc, le_of_eq, le_refl}
use lib.IntN.{ℤ}
use lib.ListN.{length, get_or, drop, drop_of_length-le}
use lib.Ieee.{Float, nan, inf, fin, binary64, up, down, of_bits, neg, lt, le, eq, ne, level}
use lib.Ieee.Fits.{up_pos, down_pos, sub-fits}
use borrow.Author.Tests.{lt-ltb, le-ltb}
use Rattle.loops.proofs.Gather.{Each, From, Gathered}
use Rattle.floats.specs.Ops.{◌⊖◌, ◌⊘◌, at, 0ᶠ}
use Rattle.floats.specs.Helpers.{abs, clamp, nan_test}
use Rattle.floats.proofs.Maximum.{not-zero}
use Rattle.floats.proofs.Meaning.{unsigned, abs_is}
use Rattle.floats.proofs.Order.{total, not-above, lt-right}
use Rattle.box_rows.specs.Rows.{Problem, size, row, is_idle, row_sum, update, natural_residual, residual_at}
use Rattle.box_rows.specs.Private.{entry, row_of}
use Rattle.box_rows.proofs.Matrix.{row-length}
use Rattle.loops.proofs.Fill.{tab-at}
use lib.Seq.{drop-cons}
use Rattle.demand3.specs.Claims.{magnitude, cell, sum_to, distance, own_residual}

-- ---- a magnitude

pub magnitude-is : (v : Float) → magnitude v ≡ unsigned v
magnitude-is nan = refl
magnitude-is (inf s) = refl
magnitude-is (fin s m e) = refl

level-zero : (s : Bool) (a b : ℕ) → a ≡ 0 → b ≡ 0 → level s a false b ≡ true
level-zero true a b p q = rw (p, q)
level-zero false a b p q = rw (p, q)

abs-zero : (s : Bool) (e : ℤ) → abs (fin s zero e) ≡ 0ᶠ
unfolding abs eq of_bits
abs-zero s e = rw (level-zero s (0 * up e * 1) (0 * 1 * down e) (ap (λ (x : ℕ). x * 1) (zero-mul (up e))) (zero-mul (down e)))

abs_more : (s : Bool) (m : ℕ) (e : ℤ) → abs (fin s (suc m) e) ≡ fin false (suc m) e
unfolding abs lt neg of_bits
abs_more true m e =
    let z = zero-mul (down e) in
    let p : 0 < suc m * up e * 1 = mul-pos (mul-pos (zero-lt-suc m) (up_pos e)) (zero-lt-suc 0) in
    rw (not-zero true m e, lt-ltb 0 (suc m * up e * 1 + 0 * 1 * down e) (omega arith))
abs_more false m e =
    let z : 0 * 1 * down e ≡ 0 = zero-mul (down e) in
    rw (not-zero false m e, le-ltb (suc m * up e * 1) (0 * 1 * down e) (omega arith))

-- of the zeros, below each the same values are
below-zero : (x : Float) (e : ℤ) → lt x 0ᶠ ≡ lt x (fin false zero e)
unfolding lt of_bits
below-zero nan e = refl
below-zero (inf true) e = refl
below-zero (inf false) e = refl
below-zero (fin false n d) e =
    let z : 0 * 1 * down d ≡ 0 = zero-mul (down d) in
    let y : 0 * up e * down d ≡ 0 = ap (λ (x : ℕ). x * down d) (zero-mul (up e)) ∙ zero-mul (down d) in
    le-ltb (n * up d * 1) (0 * 1 * down d) (omega arith) ∙ sym (le-ltb (n * up d * down e) (0 * up e * down d) (omega arith))
below-zero (fin true zero d) e =
    let a : 0 * up d * 1 ≡ 0 = ap (λ (x : ℕ). x * 1) (zero-mul (up d)) in
    let b : 0 * up d * down e ≡ 0 = ap (λ (x : ℕ). x * down e) (zero-mul (up d)) ∙ zero-mul (down e) in
    let z : 0 * 1 * down d ≡ 0 = zero-mul (down d) in
    let y : 0 * up e * down d ≡ 0 = ap (λ (x : ℕ). x * down d) (zero-mul (up e)) ∙ zero-mul (down d) in
    le-ltb 0 (0 * up d * 1 + 0 * 1 * down d) (omega arith) ∙ sym (le-ltb 0 (0 * up d * down e + 0 * up e * down d) (omega arith))
below-zero (fin true (suc n) d) e =
    let a : 0 < suc n * up d * 1 = mul-pos (mul-pos (zero-lt-suc n) (up_pos d)) (zero-lt-suc 0) in
    let b : 0 < suc n * up d * down e = mul-pos (mul-pos (zero-lt-suc n) (up_pos d)) (down_pos e) in
    lt-ltb 0 (suc n * up d * 1 + 0 * 1 * down d) (omega arith) ∙ sym (lt-ltb 0 (suc n * up d * down e + 0 * up e * down d) (omega arith))

-- what is below the solver's absolute value is below the magnitude
pub lt-abs : (x v : Float) → lt x (abs v) ≡ lt x (magnitude v)
lt-abs x nan = ap (lt x) (unfold abs eq lt of_bits in refl)
lt-abs x (inf true) = ap (lt x) (unfold abs eq lt neg of_bits in refl)
lt-abs x (inf false) = ap (lt x) (unfold abs eq lt of_bits in refl)
lt-abs x (fin s zero e) = ap (lt x) (abs-zero s e) ∙ below-zero x e
lt-abs x (fin s (suc m) e) = ap (lt x) (abs_more s m e)

-- ---- a row that acts

pub acts-above : (d : Float) → is_idle d ≡ false → lt 0ᶠ d ≡ true
unfolding is_idle nan_test ne
acts-above d h = go (eq d d) refl (lt 0ᶠ d) refl h
  where
    go : (a : Bool) → eq d d ≡ a → (b : Bool) → lt 0ᶠ d ≡ b → not a || le d 0ᶠ ≡ false → b ≡ true
    go false i b j g = absurd (true≢false g)
    go true i true j g = refl
    go true i false j g = absurd (true≢false (sym (total 0ᶠ d (unfold eq of_bits in refl) i j) ∙ g))

pub above-acts : (d : Float) → lt 0ᶠ d ≡ true → is_idle d ≡ false
unfolding is_idle nan_test ne
above-acts d h = rw (lt-right 0ᶠ d h) (go (le d 0ᶠ) refl)
  where
    go : (b : Bool) → le d 0ᶠ ≡ b → le d 0ᶠ ≡ false
    go true e = absurd (true≢false (sym h ∙ not-above 0ᶠ d e))
    go false e = e

pub idle-not-above : (d : Float) → lt 0ᶠ d ≡ false → is_idle d ≡ true
unfolding is_idle nan_test ne
idle-not-above d h = go (eq d d) refl
  where
    go : (a : Bool) → eq d d ≡ a → not a || le d 0ᶠ ≡ true
    go false i = refl
    go true i = total 0ᶠ d (unfold eq of_bits in refl) i h

-- ---- a row's sum and natural residual

distance_is : (v u d lo hi s : Float) → distance v u d lo hi s ≡ natural_residual v u d lo hi s
unfolding distance natural_residual update clamp
distance_is v u d lo hi s =
    let x = v ⊖ cond (lt (v ⊖ u ⊘ d) lo) lo (cond (lt hi (v ⊖ u ⊘ d)) hi (v ⊖ u ⊘ d)) in
    ap (λ (z : Float). z ⊘ s) (magnitude-is x ∙ sym (abs_is x (sub-fits binary64 v (cond (lt (v ⊖ u ⊘ d) lo) lo (cond (lt hi (v ⊖ u ⊘ d)) hi (v ⊖ u ⊘ d))))))

module _ (p : Problem) (i : ℕ) where
  row_at : (j : ℕ) → j < size p → at (row_of p i) j ≡ cell p i j
  unfolding row
  row_at j h = tab-at (entry p.w (size p) i) (size p) j nan h

  pub diagonal : i < size p → at (row_of p i) i ≡ cell p i i
  diagonal here = row_at i here

  -- what the solver has still to add after the columns that the claim has added
  module _ (nu : List Float) (long : length nu ≡ size p) where
    summing : (j : ℕ) → j ≤ size p → row_sum (row_of p i) (at p.u_free i) nu ≡ row_sum (drop j (row_of p i)) (sum_to p nu i j) (drop j nu)
    unfolding sum_to row_sum
    summing zero h = refl
    summing (suc j) h =
        let a : j < length (row_of p i) = rw (row-length p.w (size p) i) h in
        let b : j < length nu = omega arith in
        rw (row_at j h) at (rw (drop-cons (row_of p i) j nan a, drop-cons nu j nan b) at (summing j (omega arith)))

    pub sum_is : sum_to p nu i (size p) ≡ row_sum (row_of p i) (at p.u_free i) nu
    unfolding row_sum
    sum_is =
        let e = row-length p.w (size p) i in
        sym (summing (size p) (le_refl (size p)) ∙ rw (drop_of_length-le (row_of p i) {i = size p} (le_of_eq e)))

    pub own_is : i < size p → own_residual p nu i ≡ residual_at p nu i
    unfolding residual_at
    own_is here =
        rw (sum_is, ← diagonal here)
        (distance_is (at nu i) (row_sum (row_of p i) (at p.u_free i) nu) (at (row_of p i) i) (at p.lo i) (at p.hi i) (at p.scale i))

-- ---- the rows listed, by their places

pub rising-at : (a : ℕ) (l : List ℕ) → From a l → (k : ℕ) → suc k < length l → get_or l k 0 < get_or l (suc k) 0
rising-at a [] f k h = absurd (not-suc-le-zero h)
rising-at a (b ∷ []) f k h = absurd (not-suc-le-zero (le_of_suc-le-suc h))
rising-at a (b ∷ c ∷ l) f zero h = f.1.0
rising-at a (b ∷ c ∷ l) f (suc k) h = rising-at (suc b) (c ∷ l) f.1 k (le_of_suc-le-suc h)

-- there are no more of them than there are rows
few-rising : (n a : ℕ) (l : List ℕ) → a ≤ n → From a l → Each (λ b. b < n) l → a + length l ≤ n
few-rising n a [] h f e = omega arith
few-rising n a (b ∷ l) h f e = let r = few-rising n (suc b) l e.0 f.1 e.1 in let q = f.0 in omega arith

pub gathered-few : {P : ℕ → Type 0} (n : ℕ) (l : List ℕ) → Gathered P n l → length l ≤ n
gathered-few n l g = omega (arith, few-rising n 0 l (omega arith) g.rising g.below)
