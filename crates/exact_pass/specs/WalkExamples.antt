-- Worked examples of the walk over a ray's rows, after each number of rows, as one table that the checker computes.
-- Floats are bit patterns.
use Rattle.std.specs.Prelude.{ℕ, suc, ◌≡◌, refl, Bool, true, false, ◌&&◌, List, [], ◌∷◌, map, eqb, Float}
use Rattle.std.specs.Float.{binary64}
use Rattle.std.specs.Float.Ieee.{of_bits, to_bits, div, mul, lt, le, eq, ne, neg, add}
use Rattle.loops.specs.Loops as loops
use Rattle.loops.specs.Lists.{same}
use Rattle.floats.specs.Ops.{◌⊗◌, 1e-9}
use Rattle.floats.specs.Helpers as helpers
use Rattle.box_rows.specs.Rows as box
use Rattle.exact_pass.specs.Ray as rays
use Rattle.exact_pass.specs.Private.{largest_row, largest}
use Rattle.exact_pass.specs.Walk.{Walked, none, these, dropped, walk, walk_row, walked}

abbrev one : ℕ
one = 0x3FF0000000000000

abbrev −one : ℕ
−one = 0xBFF0000000000000

abbrev two : ℕ
two = 0x4000000000000000

abbrev four : ℕ
four = 0x4010000000000000

abbrev ∞ : ℕ
∞ = 0x7FF0000000000000

abbrev −∞ : ℕ
−∞ = 0xFFF0000000000000

-- what a number of rows must give: the rows and their farthest, or that a row stopped the walk
data Expected : Type 0 where
  has : List ℕ → ℕ → Expected
  stops : Expected

-- a problem, its states and y; what 0 rows give, 1 row and so on; and the rows of the ray
data Case : Type 0 where
  walks : box.Problem → List ℕ → List ℕ → List Expected → List ℕ → Case

abbrev floats : List ℕ → List Float
floats l = map (of_bits binary64) l

abbrev problem : List ℕ → List ℕ → List ℕ → List ℕ → List ℕ → box.Problem
problem w u lo hi s = box.problem (floats w) (floats u) (floats lo) (floats hi) (floats s)

abbrev shows : Walked → Expected → Bool
shows none stops = true
shows none (has l far) = false
shows (these r x) stops = false
shows (these r x) (has l far) = same r l && eqb (to_bits binary64 x) far

-- the walk up to k rows, k + 1 and so on
abbrev each : (ℕ → Walked) → ℕ → List Expected → Bool
each to k [] = true
each to k (s ∷ l) = shows (to k) s && each to (suc k) l

abbrev walk_of : box.Problem → List ℕ → List Float → ℕ → Walked
walk_of p st y k = walked p.lo p.hi p.scale st y (1e-9 ⊗ largest p.scale st y (box.size p)) k

unfoldable passes : Case → Bool
unfolding loops.turns loops.tab helpers.larger helpers.abs box.row box.size_of largest_row largest dropped box.grows rays.collect rays.falling_rows rays.ray walk walk_row walked of_bits to_bits add mul div lt le eq ne neg
passes (walks p st y l rows) = each (walk_of p st (floats y)) 0 l && same (rays.ray p st (floats y)) rows

abbrev all : List Case → Bool
all [] = true
all (c ∷ l) = passes c && all l

cases : List Case
cases =
    -- 1: two rows fight
    walks (problem (one ∷ −one ∷ −one ∷ one ∷ []) (−one ∷ −one ∷ []) (0 ∷ 0 ∷ []) (∞ ∷ ∞ ∷ []) (one ∷ one ∷ []))
    (0 ∷ 0 ∷ []) (one ∷ one ∷ [])
    (has [] 0 ∷ has (0 ∷ []) one ∷ has (0 ∷ 1 ∷ []) one ∷ []) (0 ∷ 1 ∷ []) ∷
    -- 2: a row that moves by 1e-9 of the largest is dropped: that it may not grow does not stop the ray
    walks (problem (one ∷ −one ∷ 0 ∷ −one ∷ one ∷ 0 ∷ 0 ∷ 0 ∷ one ∷ []) (−one ∷ −one ∷ 0 ∷ []) (0 ∷ 0 ∷ 0 ∷ [])
    (∞ ∷ ∞ ∷ one ∷ []) (one ∷ one ∷ one ∷ []))
    (0 ∷ 0 ∷ 0 ∷ []) (one ∷ one ∷ 0x3E112E0BE826D695 ∷ [])
    (has [] 0 ∷ has (0 ∷ []) one ∷ has (0 ∷ 1 ∷ []) one ∷ has (0 ∷ 1 ∷ []) one ∷ []) (0 ∷ 1 ∷ []) ∷
    -- 3: by the next f64 it counts, and stops the ray
    walks (problem (one ∷ −one ∷ 0 ∷ −one ∷ one ∷ 0 ∷ 0 ∷ 0 ∷ one ∷ []) (−one ∷ −one ∷ 0 ∷ []) (0 ∷ 0 ∷ 0 ∷ [])
    (∞ ∷ ∞ ∷ one ∷ []) (one ∷ one ∷ one ∷ []))
    (0 ∷ 0 ∷ 0 ∷ []) (one ∷ one ∷ 0x3E112E0BE826D696 ∷ [])
    (has [] 0 ∷ has (0 ∷ []) one ∷ has (0 ∷ 1 ∷ []) one ∷ stops ∷ []) [] ∷
    -- 4: an Idle row that moves far does not count: −lin / quad · farthest is 1e3, and with that row it would be 1e9
    walks (problem (one ∷ 0 ∷ 0 ∷ 0 ∷ []) (0xC08F400000000000 ∷ 0 ∷ []) (0 ∷ 0 ∷ []) (∞ ∷ ∞ ∷ []) (one ∷ one ∷ []))
    (0 ∷ 3 ∷ []) (0x408F400000000000 ∷ 0x41CDCD6500000000 ∷ [])
    (has [] 0 ∷ has (0 ∷ []) 0x408F400000000000 ∷ has (0 ∷ []) 0x408F400000000000 ∷ []) [] ∷
    -- 5: the same row acting: it is the farthest
    walks (problem (one ∷ 0 ∷ 0 ∷ 0x39B4484BFEEBC2A0 ∷ []) (0xC08F400000000000 ∷ −one ∷ []) (0 ∷ 0 ∷ []) (∞ ∷ ∞ ∷ [])
    (one ∷ one ∷ []))
    (0 ∷ 0 ∷ []) (0x408F400000000000 ∷ 0x41CDCD6500000000 ∷ [])
    (has [] 0 ∷ has (0 ∷ []) 0x408F400000000000 ∷ has (0 ∷ 1 ∷ []) 0x41CDCD6500000000 ∷ []) (0 ∷ 1 ∷ []) ∷
    -- 6: an Idle row whose y is NaN is dropped
    walks (problem (one ∷ 0 ∷ 0 ∷ 0 ∷ []) (0xC202A05F20000000 ∷ 0 ∷ []) (0 ∷ 0 ∷ []) (∞ ∷ ∞ ∷ []) (one ∷ one ∷ []))
    (0 ∷ 3 ∷ []) (one ∷ 0x7FF8000000000000 ∷ [])
    (has [] 0 ∷ has (0 ∷ []) one ∷ has (0 ∷ []) one ∷ []) (0 ∷ []) ∷
    -- 7: an acting row whose y is NaN counts, and may not grow
    walks (problem (one ∷ 0 ∷ 0 ∷ 0 ∷ one ∷ 0 ∷ 0 ∷ 0 ∷ one ∷ []) (−one ∷ −one ∷ −one ∷ []) (0 ∷ 0 ∷ 0 ∷ [])
    (∞ ∷ ∞ ∷ ∞ ∷ []) (one ∷ one ∷ one ∷ []))
    (0 ∷ 0 ∷ 0 ∷ []) (one ∷ 0x7FF8000000000000 ∷ one ∷ [])
    (has [] 0 ∷ has (0 ∷ []) one ∷ stops ∷ stops ∷ []) [] ∷
    -- 8: the largest comes first
    walks (problem (0 ∷ 0 ∷ 0 ∷ 0 ∷ 0 ∷ 0 ∷ 0 ∷ 0 ∷ 0 ∷ []) (−one ∷ −one ∷ −one ∷ []) (0 ∷ 0 ∷ 0 ∷ [])
    (∞ ∷ ∞ ∷ ∞ ∷ []) (one ∷ one ∷ one ∷ []))
    (0 ∷ 0 ∷ 0 ∷ []) (four ∷ two ∷ one ∷ [])
    (has [] 0 ∷ has (0 ∷ []) four ∷ has (0 ∷ 1 ∷ []) four ∷ has (0 ∷ 1 ∷ 2 ∷ []) four ∷ []) (0 ∷ 1 ∷ 2 ∷ []) ∷
    -- 9: the largest comes last: after one row the farthest is 1, not 4
    walks (problem (0 ∷ 0 ∷ 0 ∷ 0 ∷ 0 ∷ 0 ∷ 0 ∷ 0 ∷ 0 ∷ []) (−one ∷ −one ∷ −one ∷ []) (0 ∷ 0 ∷ 0 ∷ [])
    (∞ ∷ ∞ ∷ ∞ ∷ []) (one ∷ one ∷ one ∷ []))
    (0 ∷ 0 ∷ 0 ∷ []) (one ∷ two ∷ four ∷ [])
    (has [] 0 ∷ has (0 ∷ []) one ∷ has (0 ∷ 1 ∷ []) two ∷ has (0 ∷ 1 ∷ 2 ∷ []) four ∷ []) (0 ∷ 1 ∷ 2 ∷ []) ∷
    -- 10: over the scale: row 1 is the farthest
    walks (problem (one ∷ 0 ∷ 0 ∷ 0 ∷ one ∷ 0 ∷ 0 ∷ 0 ∷ one ∷ [])
    (0xC1CDCD6500000000 ∷ 0xC1CDCD6500000000 ∷ 0xC1CDCD6500000000 ∷ []) (0 ∷ 0 ∷ 0 ∷ []) (∞ ∷ ∞ ∷ ∞ ∷ [])
    (0x4059000000000000 ∷ one ∷ 0x4049000000000000 ∷ []))
    (0 ∷ 0 ∷ 0 ∷ []) (four ∷ two ∷ one ∷ [])
    (has [] 0 ∷ has (0 ∷ []) 0x3FA47AE147AE147B ∷ has (0 ∷ 1 ∷ []) two ∷ has (0 ∷ 1 ∷ 2 ∷ []) two ∷ [])
    (0 ∷ 1 ∷ 2 ∷ []) ∷
    -- 11: down on a row with no lower limit
    walks (problem (one ∷ one ∷ one ∷ one ∷ []) (one ∷ −one ∷ []) (−∞ ∷ 0 ∷ []) (∞ ∷ ∞ ∷ []) (one ∷ one ∷ []))
    (0 ∷ 0 ∷ []) (0xC008000000000000 ∷ 0x4008000000000000 ∷ [])
    (has [] 0 ∷ has (0 ∷ []) 0x4008000000000000 ∷ has (0 ∷ 1 ∷ []) 0x4008000000000000 ∷ []) (0 ∷ 1 ∷ []) ∷
    -- 12: down where there is a lower limit: stopped at row 1 of 3
    walks (problem (one ∷ 0 ∷ 0 ∷ 0 ∷ one ∷ 0 ∷ 0 ∷ 0 ∷ one ∷ []) (−one ∷ −one ∷ −one ∷ []) (0 ∷ 0 ∷ 0 ∷ [])
    (∞ ∷ ∞ ∷ ∞ ∷ []) (one ∷ one ∷ one ∷ []))
    (0 ∷ 0 ∷ 0 ∷ []) (one ∷ −one ∷ one ∷ [])
    (has [] 0 ∷ has (0 ∷ []) one ∷ stops ∷ stops ∷ []) [] ∷
    -- 13: an infinite y: every row is dropped, and the farthest is 0
    walks (problem (one ∷ 0 ∷ 0 ∷ 0 ∷ one ∷ 0 ∷ 0 ∷ 0 ∷ one ∷ []) (−one ∷ −one ∷ −one ∷ []) (0 ∷ 0 ∷ 0 ∷ [])
    (∞ ∷ ∞ ∷ ∞ ∷ []) (one ∷ one ∷ one ∷ []))
    (0 ∷ 0 ∷ 0 ∷ []) (∞ ∷ one ∷ one ∷ [])
    (has [] 0 ∷ has [] 0 ∷ has [] 0 ∷ has [] 0 ∷ []) [] ∷
    -- 14: the largest is 0: no ray, and every row is dropped
    walks (problem (one ∷ 0 ∷ 0 ∷ 0 ∷ one ∷ 0 ∷ 0 ∷ 0 ∷ one ∷ []) (−one ∷ −one ∷ −one ∷ []) (0 ∷ 0 ∷ 0 ∷ [])
    (∞ ∷ ∞ ∷ ∞ ∷ []) (one ∷ one ∷ one ∷ []))
    (0 ∷ 0 ∷ 0 ∷ []) (0 ∷ 0x8000000000000000 ∷ 0 ∷ [])
    (has [] 0 ∷ has [] 0 ∷ has [] 0 ∷ has [] 0 ∷ []) [] ∷
    -- 15: −lin / quad · farthest one step above a million: taken
    walks (problem (one ∷ []) (0xC12E848000000002 ∷ []) (0 ∷ []) (∞ ∷ []) (one ∷ []))
    (0 ∷ []) (one ∷ [])
    (has [] 0 ∷ has (0 ∷ []) one ∷ []) (0 ∷ []) ∷
    -- 16: exactly a million: not
    walks (problem (one ∷ []) (0xC12E848000000000 ∷ []) (0 ∷ []) (∞ ∷ []) (one ∷ []))
    (0 ∷ []) (one ∷ [])
    (has [] 0 ∷ has (0 ∷ []) one ∷ []) [] ∷
    -- 17: a dropped row's W and u_free do not count
    walks (problem (one ∷ 0x4014000000000000 ∷ 0x4014000000000000 ∷ one ∷ []) (−one ∷ 0x46293E5939A08CEA ∷ [])
    (0 ∷ 0 ∷ []) (∞ ∷ ∞ ∷ []) (one ∷ one ∷ []))
    (0 ∷ 0 ∷ []) (0x4202A05F20000000 ∷ one ∷ [])
    (has [] 0 ∷ has (0 ∷ []) 0x4202A05F20000000 ∷ has (0 ∷ []) 0x4202A05F20000000 ∷ []) [] ∷
    -- 18: the smallest subnormal: 1e-9 of it is 0, so the row counts
    walks (problem (0 ∷ []) (−one ∷ []) (0 ∷ []) (∞ ∷ []) (one ∷ []))
    (0 ∷ []) (0x0000000000000001 ∷ [])
    (has [] 0 ∷ has (0 ∷ []) 0x0000000000000001 ∷ []) (0 ∷ []) ∷ []

table : all cases ≡ true
unfolding cases passes
table = refl
