-- Worked examples of W5 and W6 that have a nearest f64, and some of their negatives, as one table that the checker computes.
use Rattle.std.specs.Prelude.{◌≡◌, refl, Bool, true, ◌&&◌, List, [], ◌∷◌, ◌++◌, ℕ, eqb, replicate}
use Rattle.std.specs.Float.{binary64}
use Rattle.std.specs.Float.Ieee.{round, eq, of_bits, to_bits}
use Rattle.accumulator.specs.Accumulators.{value_in, size, half, meaning}
use Rattle.nearest.specs.ToNearest.{plus_zero, nearest}

-- words from the lowest up, as how many and which, and the bits of the f64 nearest to what they mean
data Case : Type 0 where
  rounds : List (ℕ × ℕ) → ℕ → Case

abbrev spread : List (ℕ × ℕ) → List ℕ
spread [] = []
spread (r ∷ l) = replicate r.0 r.1 ++ spread l

unfoldable passes : Case → Bool
unfolding value_in size half meaning plus_zero nearest round eq of_bits to_bits
passes (rounds l b) = eqb (to_bits binary64 (nearest (meaning (spread l)))) b

abbrev all : List Case → Bool
all [] = true
all (c ∷ l) = passes c && all l

cases : List Case
cases =
    -- 1: nothing added: zero
    rounds ((67, 0) ∷ []) 0x0000000000000000 ∷
    -- 2: a free motion of 1
    rounds ((33, 0) ∷ (1, 0x1000000000) ∷ (33, 0) ∷ []) 0x3FF0000000000000 ∷
    -- 4: the smallest product, 2^-1074 squared: 1 unit; rounds to +0, sign 1
    rounds ((1, 1) ∷ (66, 0) ∷ []) 0x0000000000000000 ∷
    -- 5: its negative: every word FFFFFFFFFFFFFFFF, sign -1, nearest +0
    rounds ((67, 0xFFFFFFFFFFFFFFFF) ∷ []) 0x0000000000000000 ∷
    -- 6: the smallest f64 as free motion: 2^1074 units
    rounds ((16, 0) ∷ (1, 0x4000000000000) ∷ (50, 0) ∷ []) 0x0000000000000001 ∷
    -- 7: half of the smallest f64: a tie, to even: +0
    rounds ((16, 0) ∷ (1, 0x2000000000000) ∷ (50, 0) ∷ []) 0x0000000000000000 ∷
    -- 8: half of it and one unit: above the tie
    rounds ((1, 1) ∷ (15, 0) ∷ (1, 0x2000000000000) ∷ (50, 0) ∷ []) 0x0000000000000001 ∷
    -- 9: minus half of it: +0, sign -1
    rounds ((16, 0) ∷ (1, 0xFFFE000000000000) ∷ (50, 0xFFFFFFFFFFFFFFFF) ∷ []) 0x0000000000000000 ∷
    -- 10: one and a half of it: a tie, to even: 2 of the smallest
    rounds ((16, 0) ∷ (1, 0x6000000000000) ∷ (50, 0) ∷ []) 0x0000000000000002 ∷
    -- 11: largest subnormal and half of the smallest: a tie, to the smallest normal
    rounds ((16, 0) ∷ (1, 0xFFFE000000000000) ∷ (1, 0x3FFFFFFFFF) ∷ (49, 0) ∷ []) 0x0010000000000000 ∷
    -- 12: 2^53 + 1: a tie, to even; the sign is 1
    rounds ((33, 0) ∷ (1, 0x1000000000) ∷ (1, 0x2000000) ∷ (32, 0) ∷ []) 0x4340000000000000 ∷
    -- 13: 2^53 + 1 and one unit: above the tie, a digit 3,000 places lower
    rounds ((1, 1) ∷ (32, 0) ∷ (1, 0x1000000000) ∷ (1, 0x2000000) ∷ (32, 0) ∷ []) 0x4340000000000001 ∷
    -- 14: 2^53 + 3: a tie, up to even
    rounds ((33, 0) ∷ (1, 0x3000000000) ∷ (1, 0x2000000) ∷ (32, 0) ∷ []) 0x4340000000000002 ∷
    -- 18: the largest f64 squared: infinity, no refusal
    rounds ((63, 0) ∷ (1, 0x400000000000000) ∷ (1, 0xFFFF000000000000) ∷ (1, 0xFFFFFFFFF) ∷ (1, 0) ∷ []) 0x7FF0000000000000 ∷
    -- 19: 32 of it: the highest word that is used
    rounds ((63, 0) ∷ (1, 0x8000000000000000) ∷ (1, 0xFFE0000000000000) ∷ (1, 0x1FFFFFFFFFF) ∷ (1, 0) ∷ []) 0x7FF0000000000000 ∷
    -- 20: 32 of its negative
    rounds ((63, 0) ∷ (1, 0x8000000000000000) ∷ (1, 0x1FFFFFFFFFFFFF) ∷ (1, 0xFFFFFE0000000000) ∷ (1, 0xFFFFFFFFFFFFFFFF) ∷ []) 0xFFF0000000000000 ∷
    -- 21: largest f64 and half its last place: a tie, to infinity
    rounds ((48, 0) ∷ (1, 0xFFFFC00000000000) ∷ (1, 0xFFFFFFFFF) ∷ (17, 0) ∷ []) 0x7FF0000000000000 ∷
    -- 22: one unit less: the largest f64
    rounds ((48, 0xFFFFFFFFFFFFFFFF) ∷ (1, 0xFFFFBFFFFFFFFFFF) ∷ (1, 0xFFFFFFFFF) ∷ (17, 0) ∷ []) 0x7FEFFFFFFFFFFFFF ∷
    -- 23: minus largest and half its last place: minus infinity
    rounds ((48, 0) ∷ (1, 0x400000000000) ∷ (1, 0xFFFFFFF000000000) ∷ (17, 0xFFFFFFFFFFFFFFFF) ∷ []) 0xFFF0000000000000 ∷
    -- 24: too large between, and back: finite
    rounds ((32, 0) ∷ (1, 0x9999A00000000000) ∷ (1, 0x199999999) ∷ (33, 0) ∷ []) 0x3FB999999999999A ∷
    -- 25: 0.1 * 0.1: the product unrounded, nearest 0.01's neighbour
    rounds ((31, 0) ∷ (1, 0xA40000000000000) ∷ (1, 0x5C28F70A3D70A3D7) ∷ (1, 0x28F5C28F) ∷ (33, 0) ∷ []) 0x3F847AE147AE147C ∷
    -- 26: carry through words: 2^63 units of word 33 twice
    rounds ((34, 0) ∷ (1, 1) ∷ (32, 0) ∷ []) 0x41B0000000000000 ∷
    -- 27: borrow through words: 1 - one unit
    rounds ((33, 0xFFFFFFFFFFFFFFFF) ∷ (1, 0xFFFFFFFFF) ∷ (33, 0) ∷ []) 0x3FF0000000000000 ∷
    -- 28: smallest normal minus one unit: rounds to the smallest normal
    rounds ((17, 0xFFFFFFFFFFFFFFFF) ∷ (1, 0x3FFFFFFFFF) ∷ (49, 0) ∷ []) 0x0010000000000000 ∷
    -- 29: subnormal tie with a digit far below: rounding once, not twice
    rounds ((1, 1) ∷ (15, 0) ∷ (1, 0x2000000000000) ∷ (1, 0x2000000000) ∷ (49, 0) ∷ []) 0x0008000000000001 ∷
    -- 30: product of subnormals by a large number
    rounds ((32, 0) ∷ (1, 0xFFFFFFFFFC000000) ∷ (1, 0x3FFF) ∷ (33, 0) ∷ []) 0x3E8FFFFFFFFFFFFE ∷
    -- 31: 32 products and a free motion, then a 33rd: 18
    rounds ((33, 0) ∷ (1, 0x21000000000) ∷ (33, 0) ∷ []) 0x4040800000000000 ∷
    -- 32: a 33rd that is NaN: 18 before 17
    rounds ((33, 0) ∷ (1, 0x20000000000) ∷ (33, 0) ∷ []) 0x4040000000000000 ∷
    -- W6 2: 16 products and 16: 32
    rounds ((33, 0) ∷ (1, 0x60000000000) ∷ (33, 0) ∷ []) 0x4058000000000000 ∷
    -- W6 3: 16 and 17: 18, both as they were
    rounds ((33, 0) ∷ (1, 0x30000000000) ∷ (33, 0) ∷ []) 0x4048000000000000 ∷
    -- W6 9: (2^53 + 1) and (1 - 2^-53): the join rounds once
    rounds ((32, 0) ∷ (1, 0xFFFF800000000000) ∷ (1, 0x1FFFFFFFFF) ∷ (1, 0x2000000) ∷ (32, 0) ∷ []) 0x4340000000000001 ∷
    -- W6 10: made up by a caller: words of 2^4287 - 1 and of 1: they add modulo 2^4288 to -2^4287
    rounds ((66, 0) ∷ (1, 0x8000000000000000) ∷ []) 0xFFF0000000000000 ∷
    -- minus 1
    rounds ((33, 0) ∷ (1, 0xFFFFFFF000000000) ∷ (33, 0xFFFFFFFFFFFFFFFF) ∷ []) 0xBFF0000000000000 ∷
    -- minus the smallest f64
    rounds ((16, 0) ∷ (1, 0xFFFC000000000000) ∷ (50, 0xFFFFFFFFFFFFFFFF) ∷ []) 0x8000000000000001 ∷
    -- minus half of it and one unit
    rounds ((16, 0xFFFFFFFFFFFFFFFF) ∷ (1, 0xFFFDFFFFFFFFFFFF) ∷ (50, 0xFFFFFFFFFFFFFFFF) ∷ []) 0x8000000000000001 ∷
    -- minus (2^53 + 1): a tie, to even
    rounds ((33, 0) ∷ (1, 0xFFFFFFF000000000) ∷ (1, 0xFFFFFFFFFDFFFFFF) ∷ (32, 0xFFFFFFFFFFFFFFFF) ∷ []) 0xC340000000000000 ∷
    -- minus (2^53 + 3): a tie, away from zero to even
    rounds ((33, 0) ∷ (1, 0xFFFFFFD000000000) ∷ (1, 0xFFFFFFFFFDFFFFFF) ∷ (32, 0xFFFFFFFFFFFFFFFF) ∷ []) 0xC340000000000002 ∷
    -- minus the largest f64
    rounds ((48, 0) ∷ (1, 0x800000000000) ∷ (1, 0xFFFFFFF000000000) ∷ (17, 0xFFFFFFFFFFFFFFFF) ∷ []) 0xFFEFFFFFFFFFFFFF ∷
    -- minus the largest and half its last place less one unit: the largest
    rounds ((1, 1) ∷ (47, 0) ∷ (1, 0x400000000000) ∷ (1, 0xFFFFFFF000000000) ∷ (17, 0xFFFFFFFFFFFFFFFF) ∷ []) 0xFFEFFFFFFFFFFFFF ∷
    -- 1 and half its last place and one unit
    rounds ((1, 1) ∷ (31, 0) ∷ (1, 0x800000000000) ∷ (1, 0x1000000000) ∷ (33, 0) ∷ []) 0x3FF0000000000001 ∷
    -- 1 and half its last place less one unit
    rounds ((32, 0xFFFFFFFFFFFFFFFF) ∷ (1, 0x7FFFFFFFFFFF) ∷ (1, 0x1000000000) ∷ (33, 0) ∷ []) 0x3FF0000000000000 ∷
    -- the largest number of 67 words
    rounds ((66, 0xFFFFFFFFFFFFFFFF) ∷ (1, 0x7FFFFFFFFFFFFFFF) ∷ []) 0x7FF0000000000000 ∷ []

table : all cases ≡ true
unfolding cases passes
table = refl
