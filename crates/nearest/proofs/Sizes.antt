-- How many binary digits a number has. Assumes nothing.
use Prim.Native.Nat.{ℕ, suc, ◌+◌, ◌-◌, ◌*◌, ◌/◌, ◌^◌, ◌≤◌, ◌<◌}
use mathlib.Core.Path.{◌≡◌, sym, ap, ◌∙◌, subst}
use mathlib.Core.Logic.{◌⊎◌, inl, inr}
use mathlib.Core.List.{List}
use native.Mathlib.Omega.{arith}
use native.Mathlib.Nat.{eq-zero-or-pos, lt_of_lt_of_le, lt_of_le_of_lt, le-div_iff_mul-le, pow-succ'}
use lib.Pow.{pow_pos, pow_mono, pow-add, shr_lt}
use lib.Count.{count_leading_zeros, leading_length}
use lib.ListN.{length, get_or, take, drop}
use lib.Ieee.{size}
use lib.Ieee.Digits.{size-lt, size-le, size_reaches}
use Rattle.floats.proofs.SquareRoot.Patterns.{pow_lt_back}
use Rattle.accumulator.specs.Accumulators.{value, base}
use Rattle.nearest.proofs.Words.{Below, under, over, at_word, from_word, front-lt, alone}

pub reaches : (n j : ℕ) → 2 ^ j ≤ n → j < size n
reaches n j h = pow_lt_back j (size n) (lt_of_le_of_lt h (size-lt n))

-- without its last l digits
pub size_shr : (n l : ℕ) → size (n / 2 ^ l) ≡ size n - l
size_shr n l = go (eq-zero-or-pos (size n - l))
  where
    upper : size (n / 2 ^ l) ≤ size n - l
    upper = let e : size n ≤ size n - l + l = omega arith in size-le (n / 2 ^ l) (size n - l) (shr_lt (size n - l) l (lt_of_lt_of_le (size-lt n) (pow_mono e)))

    lower : 0 < size n - l → size n - l - 1 < size (n / 2 ^ l)
    lower p =
        let j = size n - l - 1 in
        let e : j + l < size n = omega arith in
        reaches (n / 2 ^ l) j ((le-div_iff_mul-le {k = 2 ^ l} {x = 2 ^ j} {y = n} (pow_pos l)).1 (subst (λ (x : ℕ). x ≤ n) (pow-add 2 j l) (size_reaches n (j + l) e)))

    go : (size n - l ≡ 0) ⊎ (0 < size n - l) → size (n / 2 ^ l) ≡ size n - l
    go (inl z) = let u = upper in omega arith
    go (inr p) = let u = upper in let v = lower p in omega arith

-- ---- a number whose highest word is a, above F

halved : (x a : ℕ) → 2 * x ≤ 2 * a + 1 → x ≤ a
halved x a h = omega arith

module _ (e a F m : ℕ) (front : F < 2 ^ e) (small : a < 2 ^ m) (large : 2 ^ m ≤ 2 * a + 1) (top : 0 < e → 0 < a) where
  at_most : size (F + 2 ^ e * a) ≤ e + m
  at_most = size-le (F + 2 ^ e * a) (e + m) (subst (λ (x : ℕ). F + 2 ^ e * a < x) (sym (pow-add 2 e m)) (under F (2 ^ e) a (2 ^ m) front small))

  at_least : (m' : ℕ) → m ≡ suc m' → e + m' < size (F + 2 ^ e * a)
  at_least m' h =
      reaches (F + 2 ^ e * a) (e + m')
      (subst (λ (x : ℕ). x ≤ F + 2 ^ e * a) (sym (pow-add 2 e m'))
      (over F (2 ^ e) a (2 ^ m') (halved (2 ^ m') a (subst (λ (x : ℕ). x ≤ 2 * a + 1) (ap (λ (x : ℕ). 2 ^ x) h ∙ pow-succ' 2 m') large))))

  none : a ≡ 0 → e ≡ 0
  none z = go (eq-zero-or-pos e)
    where
      go : (e ≡ 0) ⊎ (0 < e) → e ≡ 0
      go (inl h) = h
      go (inr h) = let p : 0 < a = top h in absurd (omega arith)

  pub sized_by : size (F + 2 ^ e * a) ≡ e + m
  sized_by = go (eq-zero-or-pos m)
    where
      go : (m ≡ 0) ⊎ (0 < m) → size (F + 2 ^ e * a) ≡ e + m
      go (inl z) =
          let s : a < 1 = subst (λ (x : ℕ). a < 2 ^ x) z small in
          let y : e ≡ 0 = none (omega arith) in
          let u = at_most in
          omega arith
      go (inr p) =
          let h : m ≡ suc (m - 1) = omega arith in
          let u = at_most in
          let v = at_least (m - 1) h in
          omega arith

-- the code's count, from the highest word that is not 0
pub sized : (l : List ℕ) (j : ℕ) → Below base l → j < length l → value (drop (j + 1) l) ≡ 0 → (0 < j → 0 < get_or l j 0)
    → j * 64 + (64 - count_leading_zeros 64 (get_or l j 0)) ≡ size (value l)
sized l j B h none top =
    let a = get_or l j 0 in
    let t = leading_length 64 a (B j) in
    let m = t.0 in
    let z : count_leading_zeros 64 a + m ≡ 64 = t.1 in
    let y : j * 64 + (64 - count_leading_zeros 64 a) ≡ j * 64 + m = omega arith in
    let F = value (take j l) in
    let v : value l ≡ F + 2 ^ (j * 64) * a = at_word l j ∙ ap (λ (x : ℕ). F + 2 ^ (j * 64) * x) (from_word l j h ∙ alone a base (value (drop (j + 1) l)) none) in
    y ∙ sym (ap size v ∙ sized_by (j * 64) a F m (front-lt l B j) t.2 t.3 (λ p. top (word p)))
  where
    word : 0 < j * 64 → 0 < j
    word p = omega arith
