-- Document 01's marked cases, 1 to 12, as one table.
use Rattle.std.specs.Prelude.{◌≡◌, refl, true, false, List, [], ◌∷◌, ℕ}
use Rattle.boxed.specs.declared.Cause.TheVariants as cause
use Rattle.cases.specs.Numbers.{∞, one, two, four, −one, −two, −four}
use Rattle.cases.specs.Cases.{Row, Input, named, solving, least_norm_case, square-root, problem, counts, solves, fights, passes, all}

abbrev 1-row : ℕ → ℕ → Input
1-row w u = problem (w ∷ []) (u ∷ []) (0 ∷ []) (∞ ∷ []) (one ∷ []) [] 0

abbrev 2-rows : ℕ → ℕ → ℕ → Input
2-rows d o u = problem (d ∷ o ∷ o ∷ d ∷ []) (u ∷ u ∷ []) (0 ∷ 0 ∷ []) (∞ ∷ ∞ ∷ []) (one ∷ one ∷ []) [] 0

unfoldable pub marked : List Row
marked =
    named "1: no rows"
    (solving (problem [] [] [] [] [] [] 0) [] (solves (counts 0 0 true true 0 0)) [] [] []) ∷
    named "2: the program's case"
    (solving (problem (two ∷ []) (−four ∷ []) (0 ∷ []) (∞ ∷ []) (one ∷ []) (one ∷ []) 0) (0 ∷ []) (solves (counts 1 1 true true 0 0)) (0 ∷ []) (two ∷ []) (7 ∷ [])) ∷
    named "3: growth, at a multiplier of 16,777,216"
    (solving (1-row 0x3E70000000000000 −one) (0 ∷ []) (fights cause.Growth (0 ∷ []) (counts 1 0 false false 0 0)) (0 ∷ []) (0x4170000000000000 ∷ []) (0 ∷ [])) ∷
    named "4: exactly a million scales is no growth"
    (solving (1-row one 0xC12E848000000000) (0 ∷ []) (solves (counts 1 1 true true 0 0)) (0 ∷ []) (0x412E848000000000 ∷ []) (7 ∷ [])) ∷
    named "5: AtLo"
    (solving (problem (one ∷ []) (four ∷ []) (0 ∷ []) (one ∷ []) (one ∷ []) [] 0) (0x3FE0000000000000 ∷ []) (solves (counts 1 1 true true 0 0)) (1 ∷ []) (0 ∷ []) (7 ∷ [])) ∷
    named "6: both bounds 0: AtLo, exact"
    (solving (problem (one ∷ []) (−four ∷ []) (0 ∷ []) (0 ∷ []) (one ∷ []) [] 0) (0 ∷ []) (solves (counts 1 1 true true 0 0)) (1 ∷ []) (0 ∷ []) (7 ∷ [])) ∷
    named "7: Idle, at lo"
    (solving (problem (0 ∷ []) (0 ∷ []) (0x4008000000000000 ∷ []) (0x4014000000000000 ∷ []) (one ∷ []) [] 0) (0 ∷ []) (solves (counts 0 0 true true 0 1)) (3 ∷ []) (0x4008000000000000 ∷ []) (7 ∷ [])) ∷
    named "8: a singular W, exact: 2 and 0"
    (solving (2-rows one one −two) (0 ∷ 0 ∷ []) (solves (counts 1 1 true true 0 0)) (0 ∷ 1 ∷ []) (two ∷ 0 ∷ []) (7 ∷ 7 ∷ [])) ∷
    named "9: two rows that fight, found by the pass"
    (solving (2-rows one −one −one) (0 ∷ 0 ∷ []) (fights cause.Pass (0 ∷ 1 ∷ []) (counts 1 1 false false two 0)) (0 ∷ 0 ∷ []) (one ∷ two ∷ []) (0 ∷ 1 ∷ [])) ∷
    named "10: least norm of (3 4), 5"
    (least_norm_case 1 2 (0x4008000000000000 ∷ four ∷ []) (0x4014000000000000 ∷ []) 1 (0x4014000000000000 ∷ 0 ∷ []) (0xC014000000000000 ∷ []) (0x3FE3333333333334 ∷ 0x3FE999999999999A ∷ [])) ∷
    named "11: least norm of 0, 7: rank 0"
    (least_norm_case 1 1 (0 ∷ []) (0x401C000000000000 ∷ []) 0 (0 ∷ []) (0x401C000000000000 ∷ []) (0 ∷ [])) ∷
    named "12: the root of the least f64"
    (square-root 1 0x1E60000000000000) ∷ []

pub marked-table : all marked ≡ true
unfolding marked passes
marked-table = refl
