-- The number that words stand for, cut at a word and at a digit. Assumes nothing.
use Prim.Native.Nat.{ℕ, zero, suc, ◌+◌, ◌-◌, ◌*◌, ◌/◌, ◌%◌, ◌^◌, ◌≤◌, ◌<◌}
use mathlib.Core.Path.{◌≡◌, refl, sym, ap, ◌∙◌, subst}
use mathlib.Core.Logic.{◌⊎◌, inl, inr}
use mathlib.Core.List.{List, [], ◌∷◌, ◌++◌}
use native.Mathlib.Omega.{arith}
use native.Mathlib.Numerals.{add-one}
use native.Mathlib.Nat.{one-le-pow, pow-succ', pow-zero, pow-suc, suc-mul, mul-le-mul_left, eq-zero-or-pos, lt_of_lt_of_le, div-lt_iff_lt-mul, div-add-mod', mod-add-div', add-mul-mod_self_right}
use lib.Arith.{digits_div, digits_mod}
use lib.Pow.{pow_pos, pow_mono, pow-add, shr-shr, mod-pow-add}
use lib.ListN.{length, get_or, take, drop}
use lib.Seq.{drop-cons}
use Rattle.accumulator.specs.Accumulators.{value_in, value, base}

-- each word is below b
abbrev pub Below : ℕ → List ℕ → Type 0
Below b l = (i : ℕ) → get_or l i 0 < b

-- ---- over any base b

cut-none : (p v : ℕ) → p ≡ 1 → v ≡ 0 + p * v
cut-none p v h = rw h (omega arith)

cut_step : (b x v t p d : ℕ) → v ≡ t + p * d → x + b * v ≡ x + b * t + b * p * d
cut_step b x v t p d h = let g : b * v ≡ b * (t + p * d) = ap (λ (y : ℕ). b * y) h in omega arith

-- the words below word i, and those from it on
pub cut : (b : ℕ) (l : List ℕ) (i : ℕ) → value_in b l ≡ value_in b (take i l) + b ^ i * value_in b (drop i l)
unfolding value_in
cut b l zero = cut-none (b ^ 0) (value_in b l) (pow-zero b)
cut b [] (suc i) = omega arith
cut b (x ∷ l) (suc i) = rw (pow-succ' b i) (cut_step b x (value_in b l) (value_in b (take i l)) (b ^ i) (value_in b (drop i l)) (cut b l i))

below_step : (b x t p : ℕ) → x < b → t < p → x + b * t < b * p
below_step b x t p h k = let g : b * suc t ≤ b * p = mul-le-mul_left b k in omega arith

pub front_below : (b : ℕ) (l : List ℕ) → Below b l → (i : ℕ) → value_in b (take i l) < b ^ i
unfolding value_in
front_below b l h zero = rw (pow-zero b) (omega arith)
front_below b [] h (suc i) = one-le-pow (suc i) b (h 0)
front_below b (x ∷ l) h (suc i) = rw (pow-succ' b i) (below_step b x (value_in b (take i l)) (b ^ i) (h 0) (front_below b l (λ j. h (suc j)) i))

turned : (t p d : ℕ) → t + p * d ≡ d * p + t
turned t p d = omega arith

high : (b : ℕ) (l : List ℕ) → Below b l → (i : ℕ) → value_in b l / b ^ i ≡ value_in b (drop i l)
high b l h i =
    ap (λ (x : ℕ). x / b ^ i) (cut b l i ∙ turned (value_in b (take i l)) (b ^ i) (value_in b (drop i l))) ∙ digits_div (value_in b (drop i l)) (front_below b l h i)

low : (b : ℕ) (l : List ℕ) → Below b l → (i : ℕ) → value_in b l % b ^ i ≡ value_in b (take i l)
low b l h i =
    ap (λ (x : ℕ). x % b ^ i) (cut b l i ∙ turned (value_in b (take i l)) (b ^ i) (value_in b (drop i l))) ∙ digits_mod (value_in b (drop i l)) (front_below b l h i)

-- one more word at the top
append-step : (b x v p w q : ℕ) → v ≡ q + w * p → x + b * v ≡ x + b * q + w * (b * p)
append-step b x v p w q h = let g : b * v ≡ b * (q + w * p) = ap (λ (y : ℕ). b * y) h in omega arith

append-none : (b w p : ℕ) → p ≡ 1 → w + b * 0 ≡ 0 + w * p
append-none b w p h = rw h (omega arith)

pub appended : (b : ℕ) (l : List ℕ) (w : ℕ) → value_in b (l ++ (w ∷ [])) ≡ value_in b l + w * b ^ length l
unfolding value_in
appended b [] w = append-none b w (b ^ 0) (pow-zero b)
appended b (x ∷ l) w = rw (pow-succ' b (length l)) (append-step b x (value_in b (l ++ (w ∷ []))) (b ^ length l) w (value_in b l) (appended b l w))

-- ---- words of 64 digits

pub base_power : (i : ℕ) → base ^ i ≡ 2 ^ (i * 64)
base_power zero = refl
base_power (suc i) = pow-suc base i ∙ ap (λ (x : ℕ). x * base) (base_power i) ∙ sym (pow-add 2 (i * 64) 64) ∙ ap (λ (x : ℕ). 2 ^ x) (sym (suc-mul i 64))

module _ (l : List ℕ) (B : Below base l) where
  pub words-above : (i : ℕ) → value l / 2 ^ (i * 64) ≡ value (drop i l)
  words-above i = ap (λ (x : ℕ). value l / x) (sym (base_power i)) ∙ high base l B i

  pub words-below : (i : ℕ) → value l % 2 ^ (i * 64) ≡ value (take i l)
  words-below i = ap (λ (x : ℕ). value l % x) (sym (base_power i)) ∙ low base l B i

  pub front-lt : (i : ℕ) → value (take i l) < 2 ^ (i * 64)
  front-lt i = subst (λ (x : ℕ). value (take i l) < x) (base_power i) (front_below base l B i)

pub at_word : (l : List ℕ) (i : ℕ) → value l ≡ value (take i l) + 2 ^ (i * 64) * value (drop i l)
at_word l i = cut base l i ∙ ap (λ (x : ℕ). value (take i l) + x * value (drop i l)) (base_power i)

pub from_word : (l : List ℕ) (w : ℕ) → w < length l → value (drop w l) ≡ get_or l w 0 + base * value (drop (w + 1) l)
unfolding value_in
from_word l w h = ap value (drop-cons l w 0 h) ∙ ap (λ (i : ℕ). get_or l w 0 + base * value (drop i l)) (sym (add-one w))

pub alone : (w c v : ℕ) → v ≡ 0 → w + c * v ≡ w
alone w c v h = rw h (omega arith)

-- below and from P * q on, by the words from P on
pub under : (F P a q : ℕ) → F < P → a < q → F + P * a < P * q
under F P a q h k = let g : P * suc a ≤ P * q = mul-le-mul_left P k in omega arith

pub over : (F P a q : ℕ) → q ≤ a → P * q ≤ F + P * a
over F P a q h = let g : P * q ≤ P * a = mul-le-mul_left P h in omega arith

-- ---- digits below digit d, which is digit d % 64 of word d / 64

base_split : (b : ℕ) → b < 64 → 2 ^ (63 - b) * 2 * 2 ^ b ≡ base
base_split b h =
    let e : 63 - b + 1 + b ≡ 64 = omega arith in
    ap (λ (x : ℕ). x * 2 ^ b) (sym (pow-add 2 (63 - b) 1)) ∙ sym (pow-add 2 (63 - b + 1) b) ∙ ap (λ (x : ℕ). 2 ^ x) e

times_split : (c y p q : ℕ) → q * 2 * p ≡ c → c * y ≡ y * q * 2 * p
times_split c y p q h = rw (← h) (omega arith)

kept-digits : (a y b : ℕ) → b < 64 → (a + base * y) % 2 ^ b ≡ a % 2 ^ b
kept-digits a y b h =
    ap (λ (x : ℕ). (a + x) % 2 ^ b) (times_split base y (2 ^ b) (2 ^ (63 - b)) (base_split b h)) ∙ add-mul-mod_self_right a (y * 2 ^ (63 - b) * 2) (2 ^ b)

no_third : (N c a y v : ℕ) → N ≡ a + c * (y + c * v) → N < c * c → v ≡ 0
no_third N c a y v e h = go (eq-zero-or-pos v)
  where
    go : (v ≡ 0) ⊎ (0 < v) → v ≡ 0
    go (inl z) = z
    go (inr p) = let g : c * c * 1 ≤ c * c * v = mul-le-mul_left (c * c) p in absurd (omega arith)

few_words : (N b : ℕ) → b < 64 → N / 2 ^ b < 2 ^ 54 → N < base * base
few_words N b h g =
    let e : 54 + b ≤ 128 = omega arith in
    lt_of_lt_of_le (subst (λ (x : ℕ). N < x) (sym (pow-add 2 54 b)) ((div-lt_iff_lt-mul {k = 2 ^ b} {x = N} {y = 2 ^ 54} (pow_pos b)).0 g)) (pow_mono e)

whole_word : (y : ℕ) → y < base → y * base % 2 ^ 128 ≡ base * y
whole_word y h = omega arith

module _ (l : List ℕ) (B : Below base l) (d : ℕ) where
  at-digit : value l / 2 ^ d ≡ value (drop (d / 64) l) / 2 ^ (d % 64)
  at-digit =
      ap (λ (x : ℕ). value l / 2 ^ x) (sym (div-add-mod' d 64)) ∙ sym (shr-shr (value l) (d / 64 * 64) (d % 64)) ∙ ap (λ (x : ℕ). x / 2 ^ (d % 64)) (words-above l B (d / 64))

  -- two words hold what is left of a number without its last d digits, and are the code's number of 128 bits
  pub quotient : d / 64 + 1 < length l → value l / 2 ^ d < 2 ^ 54
      → (get_or l (d / 64) 0 + get_or l (d / 64 + 1) 0 * base % 2 ^ 128) / 2 ^ (d % 64) ≡ value l / 2 ^ d
  quotient h g =
      let w = d / 64 in
      let b = d % 64 in
      let a = get_or l w 0 in
      let y = get_or l (w + 1) 0 in
      let v = value (drop (w + 1 + 1) l) in
      let k : b < 64 = omega arith in
      let first : w < length l = omega arith in
      let two : value (drop w l) ≡ a + base * (y + base * v) = from_word l w first ∙ ap (λ (x : ℕ). a + base * x) (from_word l (w + 1) h) in
      let none : v ≡ 0 = no_third (value (drop w l)) base a y v two (few_words (value (drop w l)) b k (subst (λ (x : ℕ). x < 2 ^ 54) at-digit g)) in
      let just : y + base * v ≡ y = alone y base v none in
      let fit : y * base % 2 ^ 128 ≡ base * y = whole_word y (B (w + 1)) in
      ap (λ (x : ℕ). (a + x) / 2 ^ b) fit ∙ sym (at-digit ∙ ap (λ (x : ℕ). x / 2 ^ b) (two ∙ ap (λ (x : ℕ). a + base * x) just))

  pub remainder : d / 64 < length l → value l % 2 ^ d ≡ get_or l (d / 64) 0 % 2 ^ (d % 64) * 2 ^ (d / 64 * 64) + value (take (d / 64) l)
  remainder h =
      let w = d / 64 in
      let b = d % 64 in
      let k : b < 64 = omega arith in
      ap (λ (x : ℕ). value l % 2 ^ x) (sym (mod-add-div' d 64))
      ∙ mod-pow-add (value l) b (w * 64)
      ∙ ap (λ (x : ℕ). x % 2 ^ b * 2 ^ (w * 64) + value l % 2 ^ (w * 64)) (words-above l B w ∙ from_word l w h)
      ∙ ap (λ (x : ℕ). x * 2 ^ (w * 64) + value l % 2 ^ (w * 64)) (kept-digits (get_or l w 0) (value (drop (w + 1) l)) b k)
      ∙ ap (λ (x : ℕ). get_or l w 0 % 2 ^ b * 2 ^ (w * 64) + x) (words-below l B w)
