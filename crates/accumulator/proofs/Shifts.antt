-- A number of two words shifted by up to 63 bits into three words, and further by whole words. Assumes nothing.
use Rattle.std.proofs.Common.{◌≡◌, ℕ, zero, suc, ◌+◌, ◌-◌, ◌*◌, ◌/◌, ◌%◌, ◌^◌, ◌<◌, ◌≤◌, [], ◌∷◌, sym, refl, ap, ◌∙◌, mul_assoc, div-add-mod', arith, lt_of_lt_of_le, pow_pos, pow_mono, pow-add, shr-shr, shr_lt}
use native.Mathlib.Nat.{mul-div-mul_right, pow-succ'}
use Rattle.accumulator.specs.Accumulators.{value_in, base, value}

-- ---- 2 ^ 128 by two factors, the places that a shift by b keeps, and those that it pushes out

whole : (b : ℕ) → b < 64 → 2 ^ (1 + (127 - b)) * 2 ^ b ≡ 2 ^ 128
whole b h = let e : 1 + (127 - b) + b ≡ 128 = omega (arith, h) in sym (pow-add 2 (1 + (127 - b)) b) ∙ ap (λ (x : ℕ). 2 ^ x) e

pushed_out : (x b : ℕ) → b < 64 → x * 2 ^ b / 2 ^ 128 ≡ x / 2 / 2 ^ (127 - b)
pushed_out x b h = ap (λ (y : ℕ). x * 2 ^ b / y) (sym (whole b h)) ∙ mul-div-mul_right x (2 ^ (1 + (127 - b))) (pow_pos b) ∙ sym (shr-shr x 1 (127 - b))

kept_and_out : (x b : ℕ) → b < 64 → x / 2 / 2 ^ (127 - b) * 2 ^ 128 + x * 2 ^ b % 2 ^ 128 ≡ x * 2 ^ b
kept_and_out x b h = ap (λ (y : ℕ). y * 2 ^ 128 + x * 2 ^ b % 2 ^ 128) (sym (pushed_out x b h)) ∙ div-add-mod' (x * 2 ^ b) (2 ^ 128)

pub top-fits : (x b : ℕ) → x < 2 ^ 128 → b < 64 → x / 2 / 2 ^ (127 - b) < base
top-fits x b h g =
    let k : 128 ≤ 64 + (1 + (127 - b)) = omega (arith, g) in
    let m : 2 ^ 128 ≤ 2 ^ (64 + (1 + (127 - b))) = pow_mono k in
    rw (shr-shr x 1 (127 - b)) (shr_lt 64 (1 + (127 - b)) (lt_of_lt_of_le h m))

-- ---- the three words together

three_words : (low top n k : ℕ) → top * (k * k) + low ≡ n → low % k + k * (low / k + k * (top + k * 0)) ≡ n
three_words low top n k h = let e : low / k * k + low % k ≡ low = div-add-mod' low k in omega (arith, e, h)

shifted : (low middle x b : ℕ) → b < 64 → low ≡ x * 2 ^ b % 2 ^ 128 % base → middle ≡ x * 2 ^ b % 2 ^ 128 / base → value (low ∷ middle ∷ x / 2 / 2 ^ (127 - b) ∷ []) ≡ x * 2 ^ b
unfolding value_in
shifted low middle x b h e f = rw (e, f) (three_words (x * 2 ^ b % 2 ^ 128) (x / 2 / 2 ^ (127 - b)) (x * 2 ^ b) base (kept_and_out x b h))

-- ---- whole words

word_power : (k : ℕ) → 2 ^ (64 * k) ≡ base ^ k
word_power zero = refl
word_power (suc k) = ap (λ (x : ℕ). 2 ^ x) (next k) ∙ pow-add 2 64 (64 * k) ∙ ap (λ (x : ℕ). base * x) (word_power k) ∙ sym (pow-succ' base k)
  where
    next : (k : ℕ) → 64 * suc k ≡ 64 + 64 * k
    next k = omega arith

power : (n : ℕ) → 2 ^ (n % 64) * base ^ (n / 64) ≡ 2 ^ n
power n =
    let e : n % 64 + 64 * (n / 64) ≡ n = omega arith in
    ap (λ (x : ℕ). 2 ^ (n % 64) * x) (sym (word_power (n / 64))) ∙ sym (pow-add 2 (n % 64) (64 * (n / 64))) ∙ ap (λ (x : ℕ). 2 ^ x) e

pub placed : (low middle x n : ℕ) → low ≡ x * 2 ^ (n % 64) % 2 ^ 128 % base → middle ≡ x * 2 ^ (n % 64) % 2 ^ 128 / base
    → value (low ∷ middle ∷ x / 2 / 2 ^ (127 - n % 64) ∷ []) * base ^ (n / 64) ≡ x * 2 ^ n
placed low middle x n e f =
    ap (λ (v : ℕ). v * base ^ (n / 64)) (shifted low middle x (n % 64) (omega arith) e f) ∙ mul_assoc x (2 ^ (n % 64)) (base ^ (n / 64)) ∙ ap (λ (y : ℕ). x * y) (power n)
