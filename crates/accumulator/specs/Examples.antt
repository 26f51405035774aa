-- Worked sums, values by their bit patterns, as one table that the checker computes. A call that is refused leaves all as it was.
use Rattle.std.specs.Prelude.{◌≡◌, ℕ, Bool, true, false, ◌&&◌, List, [], ◌∷◌, ◌++◌, map, replicate, ℤ, pos, negsuc, eqb, refl, Result, Float}
use Rattle.std.specs.Result.{result_unwrap_or, result_err}
use Rattle.std.specs.Bool.{beq}
use Rattle.std.specs.Float.{binary64}
use Rattle.std.specs.Float.Ieee.{of_bits, lt}
use Rattle.loops.specs.Loops.{turns, every}
use Rattle.loops.specs.Lists.{same}
use Rattle.floats.specs.Helpers.{is_finite}
use Rattle.accumulator.specs.declared.Accumulator.{Accumulator}
use Rattle.refusals.specs.declared.Refusal.{Refusal}
use Rattle.refusals.specs.Calls.{or_zero}
use Rattle.accumulator.specs.Accumulators.{value_in, digits_in, size, half, meaning, residue, sign_of, units, free_term, product_term, added, EMPTY, with_free, with_product, add_free, add_product, shorter, both_finite, row_sum, row}

-- ---- calls, by bit patterns, and runs of equal numbers

data Call : Type 0 where
  free : ℕ → Call
  product : ℕ → ℕ → Call

data Calls : Type 0 where
  times : ℕ → Call → Calls

data Run : Type 0 where
  run : ℕ → ℕ → Run

calls : List Calls → List Call
calls [] = []
calls (times n c ∷ l) = replicate n c ++ calls l

numbers : List Run → List ℕ
numbers [] = []
numbers (run n x ∷ l) = replicate n x ++ numbers l

-- ---- comparison

alike : ℤ → ℤ → Bool
alike (pos m) (pos n) = eqb m n
alike (negsuc m) (negsuc n) = eqb m n
alike (pos m) (negsuc n) = false
alike (negsuc m) (pos n) = false

left : Accumulator → ℕ → Bool → ℤ → List ℕ → Bool
unfolding meaning value_in size half
left a n f s l = eqb a.products n && beq a.free f && alike (sign_of (meaning a.words)) s && same a.words l

answer : Accumulator → Call → Result Accumulator Refusal
unfolding add_free add_product with_free with_product added free_term product_term units residue size value_in digits_in is_finite lt of_bits
answer a (free u) = add_free a (of_bits binary64 u)
answer a (product w v) = add_product a (of_bits binary64 w) (of_bits binary64 v)

-- ---- a case: calls from EMPTY and the number that each gets, or a whole row and its number; then products, free, sign and words

data Case : Type 0 where
  sums : List Calls → List Run → ℕ → Bool → ℤ → List Run → Case
  rows : ℕ → List ℕ → List ℕ → ℕ → ℕ → Bool → ℤ → List Run → Case

after : Accumulator → List Call → List ℕ → (Accumulator → Bool) → Bool
after a [] [] f = f a
after a [] (k ∷ ks) f = false
after a (c ∷ cs) [] f = false
after a (c ∷ cs) (k ∷ ks) f = let x = answer a c in eqb (or_zero (result_err x)) k && after (result_unwrap_or x a) cs ks f

floats : List ℕ → List Float
floats l = map (of_bits binary64) l

passes : Case → Bool
unfolding EMPTY digits_in row row_sum shorter both_finite every turns with_free with_product added free_term product_term units residue size value_in is_finite lt of_bits
passes (sums cs ks n f s l) = after EMPTY (calls cs) (numbers ks) (λ a. left a n f s (numbers l))
passes (rows u w v k n f s l) = let x = row (of_bits binary64 u) (floats w) (floats v) in eqb (or_zero (result_err x)) k && left (result_unwrap_or x EMPTY) n f s (numbers l)

each : List Case → Bool
each [] = true
each (c ∷ l) = passes c && each l

sums_1 : List Case
sums_1 =
    -- 1: nothing added: zero
    sums [] [] 0 false (pos 0) (run 67 0x0 ∷ []) ∷
    -- 2: a free motion of 1
    sums (times 1 (free 0x3FF0000000000000) ∷ []) (run 1 0 ∷ []) 0 true (pos 1) (run 33 0x0 ∷ run 1 0x1000000000 ∷ run 33 0x0 ∷ []) ∷
    -- 3: 1 * 1: 2 ^ 2148 units, word 33 has 2 ^ 36
    sums (times 1 (product 0x3FF0000000000000 0x3FF0000000000000) ∷ []) (run 1 0 ∷ []) 1 false (pos 1) (run 33 0x0 ∷ run 1 0x1000000000 ∷ run 33 0x0 ∷ []) ∷
    -- 4: the smallest product, 2 ^ -1074 squared: 1 unit
    sums (times 1 (product 0x0000000000000001 0x0000000000000001) ∷ []) (run 1 0 ∷ []) 1 false (pos 1) (run 1 0x1 ∷ run 66 0x0 ∷ []) ∷
    -- 5: its negative: every word FFFFFFFFFFFFFFFF
    sums (times 1 (product 0x8000000000000001 0x0000000000000001) ∷ []) (run 1 0 ∷ []) 1 false (negsuc 0) (run 67 0xFFFFFFFFFFFFFFFF ∷ []) ∷
    -- 6: the smallest f64 as free motion: 2 ^ 1074 units
    sums (times 1 (free 0x0000000000000001) ∷ []) (run 1 0 ∷ []) 0 true (pos 1) (run 16 0x0 ∷ run 1 0x4000000000000 ∷ run 50 0x0 ∷ []) ∷
    -- 7: half of the smallest f64
    sums (times 1 (product 0x0000000000000001 0x3FE0000000000000) ∷ []) (run 1 0 ∷ []) 1 false (pos 1) (run 16 0x0 ∷ run 1 0x2000000000000 ∷ run 50 0x0 ∷ []) ∷
    -- 8: half of it and one unit: above the tie
    sums (times 1 (product 0x0000000000000001 0x3FE0000000000000) ∷ times 1 (product 0x0000000000000001 0x0000000000000001) ∷ []) (run 2 0 ∷ []) 2 false (pos 1) (run 1 0x1 ∷ run 15 0x0 ∷ run 1 0x2000000000000 ∷ run 50 0x0 ∷ []) ∷
    -- 9: minus half of it
    sums (times 1 (product 0x8000000000000001 0x3FE0000000000000) ∷ []) (run 1 0 ∷ []) 1 false (negsuc 0) (run 16 0x0 ∷ run 1 0xFFFE000000000000 ∷ run 50 0xFFFFFFFFFFFFFFFF ∷ []) ∷
    -- 10: one and a half of it
    sums (times 1 (free 0x0000000000000001) ∷ times 1 (product 0x0000000000000001 0x3FE0000000000000) ∷ []) (run 2 0 ∷ []) 1 true (pos 1) (run 16 0x0 ∷ run 1 0x6000000000000 ∷ run 50 0x0 ∷ []) ∷
    -- 11: largest subnormal and half of the smallest f64
    sums (times 1 (free 0x000FFFFFFFFFFFFF) ∷ times 1 (product 0x0000000000000001 0x3FE0000000000000) ∷ []) (run 2 0 ∷ []) 1 true (pos 1) (run 16 0x0 ∷ run 1 0xFFFE000000000000 ∷ run 1 0x3FFFFFFFFF ∷ run 49 0x0 ∷ []) ∷
    -- 12: 2 ^ 53 + 1
    sums (times 1 (free 0x4340000000000000) ∷ times 1 (product 0x3FF0000000000000 0x3FF0000000000000) ∷ []) (run 2 0 ∷ []) 1 true (pos 1) (run 33 0x0 ∷ run 1 0x1000000000 ∷ run 1 0x2000000 ∷ run 32 0x0 ∷ []) ∷
    -- 13: 2 ^ 53 + 1 and one unit, a digit 3,000 places lower
    sums (times 1 (free 0x4340000000000000) ∷ times 1 (product 0x3FF0000000000000 0x3FF0000000000000) ∷ times 1 (product 0x0000000000000001 0x0000000000000001) ∷ []) (run 3 0 ∷ []) 2 true (pos 1) (run 1 0x1 ∷ run 32 0x0 ∷ run 1 0x1000000000 ∷ run 1 0x2000000 ∷ run 32 0x0 ∷ []) ∷
    -- 14: 2 ^ 53 + 3
    sums (times 1 (free 0x4340000000000001) ∷ times 1 (product 0x3FF0000000000000 0x3FF0000000000000) ∷ []) (run 2 0 ∷ []) 1 true (pos 1) (run 33 0x0 ∷ run 1 0x3000000000 ∷ run 1 0x2000000 ∷ run 32 0x0 ∷ []) ∷
    -- 15: 2 ^ 53 + 1 - 2 ^ 53: exactly 1, where rounded sums give 0
    sums (times 1 (free 0x4340000000000000) ∷ times 1 (product 0x3FF0000000000000 0x3FF0000000000000) ∷ times 1 (product 0x3FF0000000000000 0xC340000000000000) ∷ []) (run 3 0 ∷ []) 2 true (pos 1) (run 33 0x0 ∷ run 1 0x1000000000 ∷ run 33 0x0 ∷ []) ∷
    -- 16: x - x: all words 0 again
    sums (times 1 (free 0xC00C000000000000) ∷ times 1 (product 0x400C000000000000 0x3FF0000000000000) ∷ []) (run 2 0 ∷ []) 1 true (pos 0) (run 67 0x0 ∷ []) ∷
    -- 17: -0 as free motion and -0 * 1
    sums (times 1 (free 0x8000000000000000) ∷ times 1 (product 0x8000000000000000 0x3FF0000000000000) ∷ []) (run 2 0 ∷ []) 1 true (pos 0) (run 67 0x0 ∷ []) ∷
    -- 18: the largest f64 squared
    sums (times 1 (product 0x7FEFFFFFFFFFFFFF 0x7FEFFFFFFFFFFFFF) ∷ []) (run 1 0 ∷ []) 1 false (pos 1) (run 63 0x0 ∷ run 1 0x400000000000000 ∷ run 1 0xFFFF000000000000 ∷ run 1 0xFFFFFFFFF ∷ run 1 0x0 ∷ []) ∷
    []

sums_2 : List Case
sums_2 =
    -- 19: 32 of it: the highest word that is used
    sums (times 32 (product 0x7FEFFFFFFFFFFFFF 0x7FEFFFFFFFFFFFFF) ∷ []) (run 32 0 ∷ []) 32 false (pos 1) (run 63 0x0 ∷ run 1 0x8000000000000000 ∷ run 1 0xFFE0000000000000 ∷ run 1 0x1FFFFFFFFFF ∷ run 1 0x0 ∷ []) ∷
    -- 20: 32 of its negative
    sums (times 32 (product 0xFFEFFFFFFFFFFFFF 0x7FEFFFFFFFFFFFFF) ∷ []) (run 32 0 ∷ []) 32 false (negsuc 0) (run 63 0x0 ∷ run 1 0x8000000000000000 ∷ run 1 0x1FFFFFFFFFFFFF ∷ run 1 0xFFFFFE0000000000 ∷ run 1 0xFFFFFFFFFFFFFFFF ∷ []) ∷
    []

sums_3 : List Case
sums_3 =
    -- 21: largest f64 and half its last place
    sums (times 1 (free 0x7FEFFFFFFFFFFFFF) ∷ times 1 (product 0x7830000000000000 0x4450000000000000) ∷ []) (run 2 0 ∷ []) 1 true (pos 1) (run 48 0x0 ∷ run 1 0xFFFFC00000000000 ∷ run 1 0xFFFFFFFFF ∷ run 17 0x0 ∷ []) ∷
    -- 22: one unit less
    sums (times 1 (free 0x7FEFFFFFFFFFFFFF) ∷ times 1 (product 0x7830000000000000 0x4450000000000000) ∷ times 1 (product 0x8000000000000001 0x0000000000000001) ∷ []) (run 3 0 ∷ []) 2 true (pos 1) (run 48 0xFFFFFFFFFFFFFFFF ∷ run 1 0xFFFFBFFFFFFFFFFF ∷ run 1 0xFFFFFFFFF ∷ run 17 0x0 ∷ []) ∷
    -- 23: minus largest and half its last place
    sums (times 1 (free 0xFFEFFFFFFFFFFFFF) ∷ times 1 (product 0xF830000000000000 0x4450000000000000) ∷ []) (run 2 0 ∷ []) 1 true (negsuc 0) (run 48 0x0 ∷ run 1 0x400000000000 ∷ run 1 0xFFFFFFF000000000 ∷ run 17 0xFFFFFFFFFFFFFFFF ∷ []) ∷
    -- 24: too large for an f64 between, and back
    sums (times 1 (product 0x7FEFFFFFFFFFFFFF 0x4000000000000000) ∷ times 1 (product 0xFFEFFFFFFFFFFFFF 0x4000000000000000) ∷ times 1 (free 0x3FB999999999999A) ∷ []) (run 3 0 ∷ []) 2 true (pos 1) (run 32 0x0 ∷ run 1 0x9999A00000000000 ∷ run 1 0x199999999 ∷ run 33 0x0 ∷ []) ∷
    -- 25: 0.1 * 0.1
    sums (times 1 (product 0x3FB999999999999A 0x3FB999999999999A) ∷ []) (run 1 0 ∷ []) 1 false (pos 1) (run 31 0x0 ∷ run 1 0xA40000000000000 ∷ run 1 0x5C28F70A3D70A3D7 ∷ run 1 0x28F5C28F ∷ run 33 0x0 ∷ []) ∷
    -- 26: carry through words: 2 ^ 63 units of word 33 twice
    sums (times 1 (product 0x41A0000000000000 0x3FF0000000000000) ∷ times 1 (product 0x41A0000000000000 0x3FF0000000000000) ∷ []) (run 2 0 ∷ []) 2 false (pos 1) (run 34 0x0 ∷ run 1 0x1 ∷ run 32 0x0 ∷ []) ∷
    -- 27: borrow through words: 1 - one unit
    sums (times 1 (product 0x3FF0000000000000 0x3FF0000000000000) ∷ times 1 (product 0x8000000000000001 0x0000000000000001) ∷ []) (run 2 0 ∷ []) 2 false (pos 1) (run 33 0xFFFFFFFFFFFFFFFF ∷ run 1 0xFFFFFFFFF ∷ run 33 0x0 ∷ []) ∷
    -- 28: smallest normal minus one unit
    sums (times 1 (free 0x0010000000000000) ∷ times 1 (product 0x8000000000000001 0x0000000000000001) ∷ []) (run 2 0 ∷ []) 1 true (pos 1) (run 17 0xFFFFFFFFFFFFFFFF ∷ run 1 0x3FFFFFFFFF ∷ run 49 0x0 ∷ []) ∷
    -- 29: half the smallest normal, half a unit of 2 ^ -1074 and one unit
    sums (times 1 (product 0x0010000000000000 0x3FE0000000000001) ∷ times 1 (product 0x0000000000000001 0x0000000000000001) ∷ []) (run 2 0 ∷ []) 2 false (pos 1) (run 1 0x1 ∷ run 15 0x0 ∷ run 1 0x2000000000000 ∷ run 1 0x2000000000 ∷ run 49 0x0 ∷ []) ∷
    -- 30: product of subnormals by a large number
    sums (times 1 (product 0x000FFFFFFFFFFFFF 0x7E70000000000000) ∷ []) (run 1 0 ∷ []) 1 false (pos 1) (run 32 0x0 ∷ run 1 0xFFFFFFFFFC000000 ∷ run 1 0x3FFF ∷ run 33 0x0 ∷ []) ∷
    []

sums_4 : List Case
sums_4 =
    -- 31: 32 products and a free motion, then a 33rd: 18
    sums (times 1 (free 0x3FF0000000000000) ∷ times 33 (product 0x3FF0000000000000 0x3FF0000000000000) ∷ []) (run 33 0 ∷ run 1 18 ∷ []) 32 true (pos 1) (run 33 0x0 ∷ run 1 0x21000000000 ∷ run 33 0x0 ∷ []) ∷
    -- 32: a 33rd that is NaN: 18 before 17
    sums (times 32 (product 0x3FF0000000000000 0x3FF0000000000000) ∷ times 1 (product 0x7FF8000000000000 0x3FF0000000000000) ∷ []) (run 32 0 ∷ run 1 18 ∷ []) 32 false (pos 1) (run 33 0x0 ∷ run 1 0x20000000000 ∷ run 33 0x0 ∷ []) ∷
    -- 33: a 33rd of 0: 18
    sums (times 33 (product 0x0000000000000000 0x0000000000000000) ∷ []) (run 32 0 ∷ run 1 18 ∷ []) 32 false (pos 0) (run 67 0x0 ∷ []) ∷
    []

sums_5 : List Case
sums_5 =
    -- 34: a second free motion: 18
    sums (times 1 (free 0x3FF0000000000000) ∷ times 1 (free 0x3FF0000000000000) ∷ []) (run 1 0 ∷ run 1 18 ∷ []) 0 true (pos 1) (run 33 0x0 ∷ run 1 0x1000000000 ∷ run 33 0x0 ∷ []) ∷
    -- 35: a free motion of 0, then another: 18
    sums (times 1 (free 0x0000000000000000) ∷ times 1 (free 0x3FF0000000000000) ∷ []) (run 1 0 ∷ run 1 18 ∷ []) 0 true (pos 0) (run 67 0x0 ∷ []) ∷
    -- 36: a second free motion that is infinite: 18
    sums (times 1 (free 0x3FF0000000000000) ∷ times 1 (free 0x7FF0000000000000) ∷ []) (run 1 0 ∷ run 1 18 ∷ []) 0 true (pos 1) (run 33 0x0 ∷ run 1 0x1000000000 ∷ run 33 0x0 ∷ []) ∷
    -- 37: NaN free motion: 17, and then a good one is taken
    sums (times 1 (free 0x7FF8000000000000) ∷ times 1 (free 0x3FF0000000000000) ∷ []) (run 1 17 ∷ run 1 0 ∷ []) 0 true (pos 1) (run 33 0x0 ∷ run 1 0x1000000000 ∷ run 33 0x0 ∷ []) ∷
    -- 38: 0 * infinity: 17
    sums (times 1 (product 0x0000000000000000 0x7FF0000000000000) ∷ []) (run 1 17 ∷ []) 0 false (pos 0) (run 67 0x0 ∷ []) ∷
    -- 39: infinity * 1, 1 * -infinity, NaN * 1: 17 each, nothing counted
    sums (times 1 (product 0x7FF0000000000000 0x3FF0000000000000) ∷ times 1 (product 0x3FF0000000000000 0xFFF0000000000000) ∷ times 1 (product 0x7FF8000000000000 0x3FF0000000000000) ∷ times 1 (product 0x3FF0000000000000 0x3FF0000000000000) ∷ []) (run 3 17 ∷ run 1 0 ∷ []) 1 false (pos 1) (run 33 0x0 ∷ run 1 0x1000000000 ∷ run 33 0x0 ∷ []) ∷
    []

whole-rows : List Case
whole-rows =
    -- a whole row: W 3, free motion -1 and load 3FD5555555555555 make -2 ^ -54, where the rounded row sum is 0
    rows 0xBFF0000000000000 (0x4008000000000000 ∷ []) (0x3FD5555555555555 ∷ []) 0 1 true (negsuc 0) (run 32 0x0 ∷ run 1 0xFFFFC00000000000 ∷ run 34 0xFFFFFFFFFFFFFFFF ∷ []) ∷
    -- over the shorter of the two, of either; a NaN past it is not used
    rows 0x3FF0000000000000 (0x3FF0000000000000 ∷ 0x7FF8000000000000 ∷ []) (0x3FF0000000000000 ∷ []) 0 1 true (pos 1) (run 33 0x0 ∷ run 1 0x2000000000 ∷ run 33 0x0 ∷ []) ∷
    rows 0x3FF0000000000000 (0x3FF0000000000000 ∷ []) (0x3FF0000000000000 ∷ 0x7FF8000000000000 ∷ []) 0 1 true (pos 1) (run 33 0x0 ∷ run 1 0x2000000000 ∷ run 33 0x0 ∷ []) ∷
    rows 0x3FF0000000000000 [] [] 0 0 true (pos 1) (run 33 0x0 ∷ run 1 0x1000000000 ∷ run 33 0x0 ∷ []) ∷
    -- 32 products are taken, 33 get 18 before a NaN gets 17
    rows 0x3FF0000000000000 (numbers (run 32 0x3FF0000000000000 ∷ [])) (numbers (run 40 0x3FF0000000000000 ∷ [])) 0 32 true (pos 1) (run 33 0x0 ∷ run 1 0x21000000000 ∷ run 33 0x0 ∷ []) ∷
    rows 0x3FF0000000000000 (numbers (run 33 0x3FF0000000000000 ∷ [])) (numbers (run 33 0x3FF0000000000000 ∷ [])) 18 0 false (pos 0) (run 67 0x0 ∷ []) ∷
    rows 0x7FF8000000000000 (numbers (run 33 0x7FF8000000000000 ∷ [])) (numbers (run 33 0x3FF0000000000000 ∷ [])) 18 0 false (pos 0) (run 67 0x0 ∷ []) ∷
    -- 17 for a free motion, a first or a second factor
    rows 0x7FF8000000000000 (0x3FF0000000000000 ∷ []) (0x3FF0000000000000 ∷ []) 17 0 false (pos 0) (run 67 0x0 ∷ []) ∷
    rows 0x3FF0000000000000 (0x3FF0000000000000 ∷ 0x7FF0000000000000 ∷ []) (0x3FF0000000000000 ∷ 0x0 ∷ []) 17 0 false (pos 0) (run 67 0x0 ∷ []) ∷
    rows 0x3FF0000000000000 (0x3FF0000000000000 ∷ 0x3FF0000000000000 ∷ []) (0x3FF0000000000000 ∷ 0x7FF8000000000000 ∷ []) 17 0 false (pos 0) (run 67 0x0 ∷ []) ∷
    []

sums_1-worked : each sums_1 ≡ true
unfolding each sums_1 passes after answer left calls numbers alike floats
sums_1-worked = refl

sums_2-worked : each sums_2 ≡ true
unfolding each sums_2 passes after answer left calls numbers alike floats
sums_2-worked = refl

sums_3-worked : each sums_3 ≡ true
unfolding each sums_3 passes after answer left calls numbers alike floats
sums_3-worked = refl

sums_4-worked : each sums_4 ≡ true
unfolding each sums_4 passes after answer left calls numbers alike floats
sums_4-worked = refl

sums_5-worked : each sums_5 ≡ true
unfolding each sums_5 passes after answer left calls numbers alike floats
sums_5-worked = refl

whole-rows-worked : each whole-rows ≡ true
unfolding each whole-rows passes after answer left calls numbers alike floats
whole-rows-worked = refl
