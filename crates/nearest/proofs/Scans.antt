-- The scans for a word that is not 0: from the top down, and all below a word. Assumes nothing.
use Prim.Native.Nat.{ℕ, ◌+◌, ◌-◌, ◌*◌, ◌/◌, ◌%◌, ◌^◌, ◌≤◌, ◌<◌}
use mathlib.Core.Path.{◌≡◌, refl, sym, ap, ◌∙◌, subst}
use mathlib.Core.Bool.{Bool, true, not, ◌||◌}
use mathlib.Core.List.{List, [], ◌∷◌}
use native.Mathlib.Omega.{arith}
use native.Mathlib.Nat.{mul-pos, mod-eq_of_lt, one-mul}
use lib.Dec.{ltb, eqb}
use lib.Pow.{pow_pos}
use Rattle.std.proofs.Math.Pow.{pow-lt}
use lib.ListN.{length, get_or, take, drop, drop_of_length-le}
use borrow.Author.Tests.{lt-ltb}
use Rattle.std.specs.List.{list_any}
use Rattle.std.proofs.lemmas.Bool.Decides.{nat_tests}
use Rattle.accumulator.specs.Accumulators.{value_in, value, base}
use Rattle.nearest.proofs.Words.{Below, from_word, remainder}

-- ---- down from the top

nothing : (w v c : ℕ) → w ≡ 0 → v ≡ 0 → w + c * v ≡ 0
nothing w v c h g = rw (h, g) (omega arith)

pub none_above : (l : List ℕ) → length l ≡ 67 → value (drop 67 l) ≡ 0
unfolding value_in
none_above l h = ap value (drop_of_length-le l {i = 67} (omega arith))

module _ (l : List ℕ) (j : ℕ) (some : 0 < j) (within : j ≤ length l) (none : value (drop j l) ≡ 0) where
  pub none_after : value (drop (j - 1 + 1) l) ≡ 0
  none_after = let e : j - 1 + 1 ≡ j = omega arith in ap (λ (x : ℕ). value (drop x l)) e ∙ none

  pub none_from : get_or l (j - 1) 0 ≡ 0 → value (drop (j - 1) l) ≡ 0
  none_from h = from_word l (j - 1) (omega arith) ∙ nothing (get_or l (j - 1) 0) (value (drop (j - 1 + 1) l)) base h none_after

pub none_but-first : (l : List ℕ) (j : ℕ) → 0 < j → j ≤ 1 → value (drop j l) ≡ 0 → value (drop 1 l) ≡ 0
none_but-first l j h g e = let q : 1 ≡ j = omega arith in ap (λ (x : ℕ). value (drop x l)) q ∙ e

-- ---- the words below a word

any_step : (w v : ℕ) → not (eqb w 0) || ltb 0 v ≡ ltb 0 (w + base * v)
any_step w v = grind (arith, nat_tests)

pub any-word : (l : List ℕ) → list_any (λ (w : ℕ). not (eqb w 0)) l ≡ ltb 0 (value l)
unfolding value_in
any-word [] = refl
any-word (w ∷ l) = rw (any-word l) (any_step w (value l))

-- ---- the last d digits: those of word d / 64, and the words below

product_pos : (a p v : ℕ) → 0 < a → 0 < p → 0 < a * p + v
product_pos a p v h g = let e : 0 < a * p = mul-pos h g in omega arith

product-none : (a p v : ℕ) → a ≡ 0 → a * p + v ≡ v
product-none a p v h = rw h (omega arith)

test-some : (x : ℕ) (b : Bool) → (x ≡ 0 → ⊥) → b ≡ true → not (eqb x 0) ≡ b
test-some x b h e = rw e (grind (arith, nat_tests))

module _ (l : List ℕ) (B : Below base l) (d : ℕ) (long : length l ≡ 67) (h : d < 4288) where
  -- the power is the code's, a bit moved up by less than 64 places
  power-is : 1 * 2 ^ (d % 64) % base ≡ 2 ^ (d % 64)
  power-is =
      let few : d % 64 < 64 = omega arith in
      ap (λ (x : ℕ). x % base) (one-mul (2 ^ (d % 64))) ∙ mod-eq_of_lt (pow-lt few)

  rest : value l % 2 ^ d ≡ get_or l (d / 64) 0 % (1 * 2 ^ (d % 64) % base) * 2 ^ (d / 64 * 64) + value (take (d / 64) l)
  rest = remainder l B d (omega arith) ∙ ap (λ (x : ℕ). get_or l (d / 64) 0 % x * 2 ^ (d / 64 * 64) + value (take (d / 64) l)) (sym power-is)

  pub some_in_word : (get_or l (d / 64) 0 % (1 * 2 ^ (d % 64) % base) ≡ 0 → ⊥) → not (eqb (get_or l (d / 64) 0 % (1 * 2 ^ (d % 64) % base)) 0) ≡ ltb 0 (value l % 2 ^ d)
  some_in_word g =
      let x = get_or l (d / 64) 0 % (1 * 2 ^ (d % 64) % base) in
      let p : 0 < x = omega (arith, g) in
      test-some x (ltb 0 (value l % 2 ^ d)) g
      (lt-ltb 0 (value l % 2 ^ d) (subst (λ (y : ℕ). 0 < y) (sym rest) (product_pos x (2 ^ (d / 64 * 64)) (value (take (d / 64) l)) p (pow_pos (d / 64 * 64)))))

  pub none_in_word : (r : Bool) → get_or l (d / 64) 0 % (1 * 2 ^ (d % 64) % base) ≡ 0 → r ≡ list_any (λ (w : ℕ). not (eqb w 0)) (take (d / 64) l) → r ≡ ltb 0 (value l % 2 ^ d)
  none_in_word r g s =
      s ∙ any-word (take (d / 64) l)
      ∙ ap (ltb 0) (sym (rest ∙ product-none (get_or l (d / 64) 0 % (1 * 2 ^ (d % 64) % base)) (2 ^ (d / 64 * 64)) (value (take (d / 64) l)) g))
