-- The magnitude of a negative number in two's complement, and which numbers are negative. Assumes nothing.
use Prim.Native.Nat.{ℕ, zero, suc, ◌+◌, ◌-◌, ◌*◌, ◌^◌, ◌≤◌, ◌<◌}
use mathlib.Core.Path.{◌≡◌, refl, sym, ap, ◌∙◌, subst}
use mathlib.Core.Bool.{Bool, true, false, not, cond}
use mathlib.Core.List.{List}
use native.Mathlib.Omega.{arith}
use native.Mathlib.Numerals.{add-one}
use lib.Dec.{leb}
use lib.IntN.{pos, neg_ℤ}
use lib.Pow.{pow_pos}
use lib.ListN.{length, get_or, take, set, length-set}
use lib.Seq.{take_all}
use Rattle.std.proofs.lemmas.List.{take-set, get_or-set_same}
use borrow.Author.Tests.{le-leb, lt-leb, lt-ltb, le-ltb, leb-true, leb-false}
use lib.Ieee.{Float, binary64, round, neg}
use Rattle.floats.proofs.Rounding.{round-neg}
use Rattle.std.specs.Int.{from_bool}
use Rattle.accumulator.specs.Accumulators.{value_in, value, base, size, half, meaning}
use Rattle.nearest.specs.ToNearest.{plus_zero, nearest}
use Rattle.accumulator.specs.Steps.{Words}
use Rattle.accumulator.proofs.Values.{one_more, below-size}
use Rattle.accumulator.proofs.Tops.{negative, not_negative}
use Rattle.accumulator.proofs.Together.{more-digits}

-- ---- the loop: what is left and what was read make base ^ i, with the carry of a complement, which is there where nothing is owed

pub neg-start : (a b : List ℕ) → value (take 0 a) + value (take 0 b) + 1 * base ^ 0 ≡ base ^ 0
unfolding value_in
neg-start a b = refl

neg-step : (A W x w p b : ℕ) (c c' : Bool) → A + W + from_bool (not c) * p ≡ p → x + w + from_bool c ≡ 0 + from_bool c' * b → A + x * p + (W + w * p) + from_bool (not c') * (b * p) ≡ b * p
neg-step A W x w p b false false h e = let g : (x + w + 0) * p ≡ (0 + 0 * b) * p = ap (λ (y : ℕ). y * p) e in omega arith
neg-step A W x w p b false true h e = let g : (x + w + 0) * p ≡ (0 + 1 * b) * p = ap (λ (y : ℕ). y * p) e in omega arith
neg-step A W x w p b true false h e = absurd (omega arith)
neg-step A W x w p b true true h e = let g : (x + w + 1) * p ≡ (0 + 1 * b) * p = ap (λ (y : ℕ). y * p) e in omega arith

front-set : (l : List ℕ) (i x : ℕ) → i < length l → value (take (suc i) (set l i x)) ≡ value (take i l) + x * base ^ i
front-set l i x h =
    let g : i < length (set l i x) = omega (arith, length-set l i x) in
    more-digits base (set l i x) i g
    ∙ ap (λ (k : List ℕ). value k + get_or (set l i x) i 0 * base ^ i) (take-set l i x) ∙ ap (λ (y : ℕ). value (take i l) + y * base ^ i) (get_or-set_same l i x 0 h)

pub neg_again : (a b : List ℕ) (i x : ℕ) (c c' : Bool) → length a ≡ 67 → length b ≡ 67 → i < 67
    → value (take i a) + value (take i b) + from_bool (not c) * base ^ i ≡ base ^ i
    → x + get_or b i 0 + from_bool c ≡ 0 + from_bool c' * 2 ^ 64
    → value (take (i + 1) (set a i x)) + value (take (i + 1) b) + from_bool (not c') * base ^ (i + 1) ≡ base ^ (i + 1)
neg_again a b i x c c' f g h e k =
    rw (one_more base i, add-one, front-set a i x (omega arith), more-digits base b i (omega arith))
    (neg-step (value (take i a)) (value (take i b)) x (get_or b i 0) (base ^ i) base c c' e k)

left_over : (A W c p : ℕ) → A + W + c * p ≡ p → 0 < W → A ≡ p - W
left_over A W zero p h w = omega arith
left_over A W (suc c) p h w = absurd (omega arith)

pub neg_done : (a b : List ℕ) (i c : ℕ) → length a ≡ 67 → length b ≡ 67 → i ≤ 67 → 67 ≤ i
    → value (take i a) + value (take i b) + c * base ^ i ≡ base ^ i → 0 < value b → value a ≡ size - value b
unfolding size
neg_done a b i c f g l m e p = left_over (value a) (value b) c (base ^ 67) whole p
  where
    at-end : i ≡ 67
    at-end = omega arith

    whole : value a + value b + c * base ^ 67 ≡ base ^ 67
    whole =
        sym (ap (λ (x : List ℕ). value x + value (take 67 b) + c * base ^ 67) (take_all 67 a (omega arith)) ∙ ap (λ (x : List ℕ). value a + value x + c * base ^ 67) (take_all 67 b (omega arith)))
        ∙ subst (λ (n : ℕ). value (take n a) + value (take n b) + c * base ^ n ≡ base ^ n) at-end e

-- ---- the highest word says the sign

pub is_negative : (l : List ℕ) → Words l → (leb 9223372036854775808 (get_or l 66 0) ≡ leb half (value l)) × (value l < size)
is_negative l w = (go (leb 9223372036854775808 (get_or l 66 0)) refl, below-size l w)
  where
    go : (b : Bool) → leb 9223372036854775808 (get_or l 66 0) ≡ b → b ≡ leb half (value l)
    go true e = sym (le-leb half (value l) (negative l w (leb-true 9223372036854775808 (get_or l 66 0) e)))
    go false e = sym (lt-leb half (value l) (not_negative l w (leb-false 9223372036854775808 (get_or l 66 0) e)))

-- ---- what the words mean

pub rounds_positive : (l : List ℕ) → false ≡ leb half (value l) → nearest (meaning l) ≡ plus_zero (round binary64 false (value l) (2 ^ 2148))
unfolding meaning nearest
rounds_positive l e =
    ap (λ (b : Bool). nearest (cond b (pos (value l)) (neg_ℤ (pos (size - value l))))) (lt-ltb (value l) half (leb-false half (value l) (sym e)))

of_negative : (m : ℕ) → 0 < m → nearest (neg_ℤ (pos m)) ≡ plus_zero (neg (round binary64 false m (2 ^ 2148)))
unfolding nearest
of_negative zero h = absurd (omega arith)
of_negative (suc m) h = ap plus_zero (round-neg binary64 false (suc m) (2 ^ 2148))

remains : (s v : ℕ) → v < s → 0 < s - v
remains s v h = omega arith

pub rounds_negative : (l : List ℕ) (m : ℕ) → true ≡ leb half (value l) → value l < size → m ≡ size - value l
    → nearest (meaning l) ≡ plus_zero (neg (round binary64 false m (2 ^ 2148)))
unfolding meaning
rounds_negative l m e h g =
    ap (λ (b : Bool). nearest (cond b (pos (value l)) (neg_ℤ (pos (size - value l))))) (le-ltb (value l) half (leb-true half (value l) (sym e)))
    ∙ of_negative (size - value l) (remains size (value l) h)
    ∙ ap (λ (x : ℕ). plus_zero (neg (round binary64 false x (2 ^ 2148)))) (sym g)

-- half is not 0
pub some : (l : List ℕ) → true ≡ leb half (value l) → 0 < value l
some l e = above half (value l) half_pos (leb-true half (value l) (sym e))
  where
    above : (h v : ℕ) → 0 < h → h ≤ v → 0 < v
    above h v p g = omega arith

    half_pos : 0 < half
    half_pos = unfold half in pow_pos 4287

-- ---- what the code returns: n is whether the number is negative, v the rounded magnitude

module _ (l : List ℕ) (n : Bool) (v r : Float) (sign : n ≡ leb half (value l)) where
  pub returned_positive : n ≡ false → v ≡ round binary64 false (value l) (2 ^ 2148) → r ≡ plus_zero v → r ≡ nearest (meaning l)
  returned_positive e g h = h ∙ ap plus_zero g ∙ sym (rounds_positive l (sym e ∙ sign))

  pub returned_negative : (m : ℕ) → n ≡ true → value l < size → m ≡ size - value l → v ≡ round binary64 false m (2 ^ 2148) → r ≡ plus_zero (neg v) → r ≡ nearest (meaning l)
  returned_negative m e s q g h = h ∙ ap (λ (x : Float). plus_zero (neg x)) g ∙ sym (rounds_negative l m (sym e ∙ sign) s q)

pub some_negative : (l : List ℕ) (n : Bool) → n ≡ leb half (value l) → n ≡ true → 0 < value l
some_negative l n sign e = some l (sym e ∙ sign)
