-- The top word, and the sign of the whole number that 67 words mean. Assumes nothing.
use Rattle.std.proofs.Common.{◌≡◌, ℕ, zero, suc, ◌+◌, ◌-◌, ◌*◌, ◌^◌, ◌<◌, ◌≤◌, true, false, T, eqb, List, [], ◌∷◌, length, get_or, pos, negsuc, neg_ℤ, sym, refl, ◌∙◌, subst, le_trans, lt_of_lt_of_le, mul-le-mul_right, mul-le-mul_left, arith, eqb→eq, le-ltb, lt-ltb}
use native.Mathlib.Nat.{pow-succ', pow-zero}
use Rattle.std.proofs.lemmas.Bool.Decides.{nat_tests}
use Rattle.std.specs.List.{list_all}
use Rattle.accumulator.specs.Accumulators.{value_in, base, value, size, half, meaning, sign_of}
use Rattle.accumulator.specs.Steps.{Words}
use Rattle.accumulator.proofs.Values.{below-size}

-- ---- the number lies between the top word's multiples of its power

over : (b w v t p : ℕ) → b * (t * p) ≤ b * v → t * (b * p) ≤ w + b * v
over b w v t p h = omega (arith, h)

under : (b w v t p : ℕ) → w < b → b * (v + 1) ≤ b * ((t + 1) * p) → w + b * v < (t + 1) * (b * p)
under b w v t p g h = omega (arith, g, h)

pub top_reaches : (b n : ℕ) (l : List ℕ) → length l ≡ suc n → get_or l n 0 * b ^ n ≤ value_in b l
unfolding value_in
top_reaches b n [] h = absurd (omega (arith, h))
top_reaches b zero (w ∷ l) h = rw (pow-zero b) (omega arith)
top_reaches b (suc n) (w ∷ l) h =
    let g : length l ≡ suc n = omega (arith, h) in
    rw (pow-succ' b n) (over b w (value_in b l) (get_or l n 0) (b ^ n) (mul-le-mul_left b (top_reaches b n l g)))

pub top_bounds : (b n : ℕ) (l : List ℕ) → length l ≡ suc n → ((i : ℕ) → get_or l i 0 < b) → value_in b l < (get_or l n 0 + 1) * b ^ n
unfolding value_in
top_bounds b n [] h f = absurd (omega (arith, h))
top_bounds b zero (w ∷ []) h f = rw (pow-zero b) (omega arith)
top_bounds b zero (w ∷ (x ∷ l)) h f = absurd (omega (arith, h))
top_bounds b (suc n) (w ∷ l) h f =
    let g : length l ≡ suc n = omega (arith, h) in
    let a : value_in b l + 1 ≤ (get_or l n 0 + 1) * b ^ n = omega (arith, top_bounds b n l g (λ i. f (suc i))) in
    rw (pow-succ' b n) (under b w (value_in b l) (get_or l n 0) (b ^ n) (f 0) (mul-le-mul_left b a))

half_is : half ≡ 9223372036854775808 * base ^ 66
unfolding half
half_is = refl

pub negative : (l : List ℕ) → Words l → 9223372036854775808 ≤ get_or l 66 0 → half ≤ value l
negative l w h = rw half_is (le_trans (mul-le-mul_right (base ^ 66) h) (top_reaches base 66 l w.all))

pub not_negative : (l : List ℕ) → Words l → get_or l 66 0 < 9223372036854775808 → value l < half
not_negative l w h =
    let g : get_or l 66 0 + 1 ≤ 9223372036854775808 = omega (arith, h) in
    rw half_is (lt_of_lt_of_le (top_bounds base 66 l w.all (λ i. w.each i)) (mul-le-mul_right (base ^ 66) g))

-- ---- whether the number is 0

pub all-zero : (l : List ℕ) → list_all (λ (w : ℕ). eqb w 0) l ≡ eqb (value l) 0
unfolding value_in
all-zero [] = refl
all-zero (zero ∷ l) = all-zero l ∙ no_more (value l)
  where
    no_more : (v : ℕ) → eqb v 0 ≡ eqb (0 + base * v) 0
    no_more v = grind (arith, nat_tests)
all-zero (suc w ∷ l) = grind (arith, nat_tests)

-- ---- the sign

below : (n : ℕ) → 0 < n → negsuc 0 ≡ sign_of (neg_ℤ (pos n))
below zero h = absurd (omega (arith, h))
below (suc n) h = refl

pub sign_below : (l : List ℕ) → Words l → 9223372036854775808 ≤ get_or l 66 0 → negsuc 0 ≡ sign_of (meaning l)
unfolding meaning
sign_below l w h = rw (le-ltb (value l) half (negative l w h)) (below (size - value l) (omega (arith, below-size l w)))

pub sign_zero : (l : List ℕ) → Words l → get_or l 66 0 < 9223372036854775808 → list_all (λ (w : ℕ). eqb w 0) l ≡ true → pos 0 ≡ sign_of (meaning l)
unfolding meaning
sign_zero l w h e =
    let z : value l ≡ 0 = eqb→eq (value l) 0 (subst T (sym (sym (all-zero l) ∙ e)) tt) in
    rw (lt-ltb (value l) half (not_negative l w h), z)

above : (n : ℕ) → eqb n 0 ≡ false → pos 1 ≡ sign_of (pos n)
above zero h = cc
above (suc n) h = refl

pub sign_above : (l : List ℕ) → Words l → get_or l 66 0 < 9223372036854775808 → list_all (λ (w : ℕ). eqb w 0) l ≡ false → pos 1 ≡ sign_of (meaning l)
unfolding meaning
sign_above l w h e = rw (lt-ltb (value l) half (not_negative l w h)) (above (value l) (sym (all-zero l) ∙ e))
