-- Cases that document 01's marked ones leave open: a case for each tempting error, and for what is easy to get wrong. What must come out is what the Rust answers.
use Rattle.std.specs.Prelude.{◌≡◌, refl, true, false, List, [], ◌∷◌}
use Rattle.boxed.specs.declared.Cause.TheVariants as cause
use Rattle.cases.specs.Numbers.{nan_bits, four, one, two, −one, −two, −∞, ∞}
use Rattle.cases.specs.Cases.{Row, named, solving, problem, counts, solves, fights, passes, all}

unfoldable pub further : List Row
further =
    named "Growth leaves the states as the last pass did, here Inside, and not as the multipliers show them"
    (solving (problem (0x3E70000000000000 ∷ 0 ∷ 0 ∷ one ∷ []) (−one ∷ one ∷ []) (0 ∷ 0 ∷ []) (∞ ∷ ∞ ∷ [])
    (one ∷ one ∷ []) [] 0) (0 ∷ 0 ∷ []) (fights cause.Growth (0 ∷ []) (counts 1 0 false false 0 0)) (0 ∷ 0 ∷ [])
    (0x4170000000000000 ∷ 0 ∷ []) (0 ∷ 7 ∷ [])) ∷
    named "All rows Idle, the multiplier past a million scales: solved"
    (solving (problem (0 ∷ []) (0 ∷ []) (0x413E848000000000 ∷ []) (∞ ∷ []) (one ∷ []) [] 0) (0 ∷ []) (solves (counts 0 0 true true 0 1)) (3 ∷ []) (0x413E848000000000 ∷ []) (7 ∷ [])) ∷
    named "The same row beside one that acts: growth looks at Idle rows too"
    (solving (problem (0 ∷ 0 ∷ 0 ∷ one ∷ []) (0 ∷ 0 ∷ []) (0x413E848000000000 ∷ 0 ∷ []) (∞ ∷ ∞ ∷ []) (one ∷ one ∷ [])
    [] 0) (0 ∷ 0 ∷ []) (fights cause.Growth (0 ∷ []) (counts 1 0 false false 0 1)) (3 ∷ 0 ∷ [])
    (0x413E848000000000 ∷ 0 ∷ []) (0 ∷ 7 ∷ [])) ∷
    named "No growth where a million scales overflow"
    (solving (problem (one ∷ []) (0xFFE1CCF385EBC8A0 ∷ []) (0 ∷ []) (∞ ∷ []) (0x7ED754E31CD072DA ∷ []) [] 0) (0 ∷ [])
    (solves (counts 1 1 true false 0 0)) (0 ∷ []) (0x7FE1CCF385EBC8A0 ∷ []) (7 ∷ [])) ∷
    named "A NaN linear part goes on"
    (solving (problem (0x20B0000000000000 ∷ 0xA0B0000000000000 ∷ 0xA0B0000000000000 ∷ 0x20B0000000000000 ∷ [])
    (0xE028000000000000 ∷ 0x6010000000000000 ∷ []) (0 ∷ 0 ∷ []) (∞ ∷ ∞ ∷ [])
    (0x7E37E43C8800759C ∷ 0x7E37E43C8800759C ∷ []) [] 0) (0 ∷ 0 ∷ [])
    (fights cause.Pass (0 ∷ 1 ∷ []) (counts 1 1 false false 0x41156E1FC2F8F359 0)) (0 ∷ 0 ∷ [])
    (0x7F68000000000000 ∷ 0x7F60000000000000 ∷ []) (0 ∷ 1 ∷ [])) ∷
    named "A bound that is not finite is not near"
    (solving (problem (one ∷ []) (−∞ ∷ []) (∞ ∷ []) (0x4014000000000000 ∷ []) (one ∷ []) [] 0) (∞ ∷ []) (solves (counts 1 1 true true 0 0)) (2 ∷ []) (0x4014000000000000 ∷ []) (7 ∷ [])) ∷
    named "A residual of exactly 1e-9 does not free a row"
    (solving (problem (one ∷ 0 ∷ 0 ∷ 0x3AF0000000000000 ∷ []) (−one ∷ 0xBAF0000000000000 ∷ []) (0 ∷ −∞ ∷ [])
    (∞ ∷ ∞ ∷ []) (one ∷ 0x41CDCD6500000000 ∷ []) [] 0) (0 ∷ 0 ∷ [])
    (solves (counts 1 1 true true 0x3E112E0BE826D695 0)) (0 ∷ 0 ∷ []) (one ∷ 0 ∷ []) (7 ∷ 7 ∷ [])) ∷
    named "A ray after a sweep"
    (solving (problem (one ∷ 0xBFEFFFFFFAA19C47 ∷ 0xBFEFFFFFFAA19C47 ∷ one ∷ []) (−one ∷ −one ∷ []) (0 ∷ 0 ∷ [])
    (∞ ∷ ∞ ∷ []) (one ∷ one ∷ []) [] 0) (0 ∷ 0 ∷ [])
    (fights cause.Sweep (0 ∷ 1 ∷ []) (counts 2 2 false false 0x3FFFFFFFED35A2FC 0)) (0 ∷ 0 ∷ [])
    (0x4007FFFFFBF93536 ∷ 0x400FFFFFF7F26A6C ∷ []) (0 ∷ 1 ∷ [])) ∷
    named "A NaN row adds nothing to the residual"
    (solving (problem (one ∷ []) (nan_bits ∷ []) (0 ∷ []) (∞ ∷ []) (one ∷ []) [] 0) (0 ∷ []) (solves (counts 1 1 true true 0 0)) (0 ∷ []) (nan_bits ∷ []) (7 ∷ [])) ∷
    named "An inverted box"
    (solving (problem (one ∷ []) (−one ∷ []) (one ∷ []) (−one ∷ []) (one ∷ []) [] 0) (0 ∷ []) (solves (counts 1 1 true true two 0)) (1 ∷ []) (one ∷ []) (7 ∷ [])) ∷
    named "Exact multipliers may lie outside their boxes"
    (solving (problem
    (one ∷ 0x4008000000000000 ∷ −one ∷ 0x4008000000000000 ∷ 0x4008000000000000 ∷ −one ∷ −one ∷ −one ∷ 0x4008000000000000 ∷ [])
    (−two ∷ 0x8000000000000000 ∷ 0x4008000000000000 ∷ []) (−one ∷ −∞ ∷ 0 ∷ []) (∞ ∷ one ∷ ∞ ∷ [])
    (one ∷ one ∷ one ∷ []) [] 0) (0 ∷ 0 ∷ two ∷ []) (solves (counts 1 1 true true 0x3CC0000000000000 0))
    (0 ∷ 0 ∷ 1 ∷ []) (−one ∷ 0x3FF0000000000002 ∷ 0 ∷ []) (7 ∷ 7 ∷ 7 ∷ [])) ∷
    named "Exact multipliers may be past a million scales"
    (solving (problem (one ∷ 0xBFE0000000000000 ∷ 0xBFE0000000000000 ∷ one ∷ []) (−one ∷ −one ∷ []) (0 ∷ 0 ∷ [])
    (∞ ∷ ∞ ∷ []) (0x3EBD5C31593E5FB7 ∷ 0x3EBD5C31593E5FB7 ∷ []) [] 0) (0 ∷ 0 ∷ []) (solves (counts 1 1 true true 0 0))
    (0 ∷ 0 ∷ []) (two ∷ two ∷ []) (7 ∷ 7 ∷ [])) ∷
    named "Just past a million scales"
    (solving (problem (one ∷ []) (0xC12E848000000001 ∷ []) (0 ∷ []) (∞ ∷ []) (one ∷ []) [] 0) (0 ∷ [])
    (fights cause.Growth (0 ∷ []) (counts 1 0 false false 0 0)) (0 ∷ []) (0x412E848000000001 ∷ []) (0 ∷ [])) ∷
    named "Near both bounds AtLo wins"
    (solving (problem (one ∷ []) (−one ∷ []) (0 ∷ []) (0x3DDB7CDFD9D7BDBB ∷ []) (one ∷ []) [] 0) (0 ∷ []) (solves (counts 1 1 true true 0x3DDB7CDFD9D7BDBB 0)) (1 ∷ []) (0 ∷ []) (7 ∷ [])) ∷
    named "Near the upper bound"
    (solving (problem (one ∷ []) (−one ∷ []) (−one ∷ []) (0x3FF0000000225C18 ∷ []) (one ∷ []) [] 0) (0 ∷ [])
    (solves (counts 1 1 true true 0x3E012E0C00000000 0)) (2 ∷ []) (0x3FF0000000225C18 ∷ []) (7 ∷ [])) ∷
    named "A watched motion that has not stopped"
    (solving (problem (one ∷ 0x3FECCCCCCCCCCCCD ∷ 0x3FECCCCCCCCCCCCD ∷ one ∷ []) (−one ∷ −two ∷ []) (−∞ ∷ −∞ ∷ [])
    (∞ ∷ ∞ ∷ []) (one ∷ one ∷ []) (one ∷ one ∷ []) 0) (0 ∷ 0 ∷ [])
    (solves (counts 1 1 true true 0x3CE0000000000000 0)) (0 ∷ 0 ∷ []) (0xC010D79435E50D71 ∷ 0x4017286BCA1AF27E ∷ [])
    (7 ∷ 7 ∷ [])) ∷
    named "A NaN diagonal is Idle, its column counts in row sums"
    (solving (problem (nan_bits ∷ two ∷ two ∷ four ∷ []) (one ∷ 0xC020000000000000 ∷ []) (one ∷ 0 ∷ [])
    (0x4008000000000000 ∷ ∞ ∷ []) (one ∷ one ∷ []) [] 0) (0x4022000000000000 ∷ 0 ∷ [])
    (solves (counts 1 1 true true 0 1)) (3 ∷ 0 ∷ []) (one ∷ 0x3FF8000000000000 ∷ []) (7 ∷ 7 ∷ [])) ∷ []

pub further-table : all further ≡ true
unfolding further passes
further-table = refl
