-- A case for each single error of a solve that the comparison puts into its reference (compare/src/reference/rule.rs), but those of refusals, which are in Refusals.antt, and two that write past
-- n states or past the workspace's front, which no case here lends. Each case has the errors that it shows and no case before it. What must come out is what the Rust answers.
use Rattle.std.specs.Prelude.{◌≡◌, refl, true, false, List, [], ◌∷◌}
use Rattle.boxed.specs.declared.Cause.TheVariants as cause
use Rattle.cases.specs.Numbers.{nan_bits, four, one, two, −one, −two, −∞, ∞}
use Rattle.cases.specs.Cases.{Row, showing, solving, problem, counts, solves, fights, passes, all}

unfoldable pub first : List Row
first =
    showing
    ("Idle only where W_ii is 0" ∷ "all rows called Idle every time" ∷ "row sum: Idle columns left out" ∷ "growth: Idle rows not looked at" ∷
    "growth: nu, not |nu|" ∷ "growth: the scale left out" ∷ "growth called at sweep 1" ∷ "growth tested after the pass" ∷
    "one sweep more reported than made" ∷ "one pass more reported than made" ∷ "no multipliers written" ∷ "row list past the rows cleared" ∷
    "all refused" ∷ "10: a workspace of 2,304 refused" ∷ "10: states or row list under 32 refused" ∷ [])
    (solving (problem (four ∷ 0xBFE0000000000000 ∷ 0xBFE0000000000000 ∷ −two ∷ []) (0xC008000000000000 ∷ −one ∷ [])
    (0 ∷ −∞ ∷ []) (∞ ∷ 0xC008000000000000 ∷ []) (one ∷ 0x3E112E0BE826D695 ∷ []) [] 0) (0 ∷ 0 ∷ [])
    (fights cause.Growth (1 ∷ []) (counts 1 0 false false 0 1)) (0 ∷ 3 ∷ [])
    (0x3FD8000000000000 ∷ 0xC008000000000000 ∷ []) (1 ∷ 7 ∷ [])) ∷
    showing
    ("clamp: hi before lo" ∷ "clamp: by the larger and the smaller of two" ∷ "Idle not where W_ii is 0" ∷ "an Idle row starts from its multiplier" ∷
    "sweeps and growth where all rows are Idle" ∷ [])
    (solving (problem (0 ∷ []) (two ∷ []) (0x3FEFD02604B2E28E ∷ []) (0xBF77ECFDA68EB900 ∷ [])
    (0x3FE0000000000000 ∷ []) (0 ∷ 0 ∷ []) 0x3FE0000000000000) (nan_bits ∷ []) (solves (counts 0 0 true true 0 1)) (3 ∷ [])
    (0x3FEFD02604B2E28E ∷ []) (7 ∷ [])) ∷
    showing
    ("state: < for <= at 1e-9" ∷ "state: the scale left out" ∷ "state: AtHi only on hi itself" ∷ "pass: every row starts Inside" ∷
    "pass: a row near a bound is not put on it" ∷ "pass: >= for > at 1e-9 in the release" ∷ "pass: release by |u|" ∷
    "pass: release without the scale" ∷ [])
    (solving (problem (one ∷ []) (0x3E312E0BE826D695 ∷ []) (−∞ ∷ []) (0 ∷ []) (four ∷ []) [] 0) (0 ∷ []) (solves (counts 1 1 true true 0x3E112E0BE826D695 0)) (2 ∷ []) (0 ∷ []) (7 ∷ [])) ∷
    showing
    ("the start is not clamped" ∷ "row sum: runs downward" ∷ "row sum: products and sums rounded together" ∷
    "sweep: from the multipliers before it" ∷ "sweep: times 1 / W_ii" ∷ "states: those that the multipliers show in an infeasible answer" ∷ [])
    (solving (problem
    (0x4008000000000000 ∷ −one ∷ −one ∷ one ∷ −one ∷ one ∷ 0 ∷ −one ∷ −one ∷ 0 ∷ 0x4008000000000000 ∷ one ∷ one ∷ −one ∷ one ∷ two ∷ [])
    (one ∷ 0x4008000000000000 ∷ −two ∷ two ∷ []) (nan_bits ∷ nan_bits ∷ 0xFFEFFFFFFFFFFFFF ∷ nan_bits ∷ [])
    (one ∷ −one ∷ 0xFFEFFFFFFFFFFFFF ∷ −two ∷ []) (0x3FE0000000000000 ∷ one ∷ two ∷ two ∷ []) [] 0)
    (0 ∷ one ∷ one ∷ −one ∷ []) (fights cause.Growth (0 ∷ 1 ∷ 2 ∷ []) (counts 1 0 false false 0x7FE5555555555555 0))
    (0 ∷ 0 ∷ 0 ∷ 0 ∷ []) (0xFFD5555555555555 ∷ 0xFFD5555555555555 ∷ 0xFFEFFFFFFFFFFFFF ∷ −two ∷ [])
    (0 ∷ 1 ∷ 2 ∷ 7 ∷ [])) ∷
    showing
    ("growth: a NaN multiplier counts" ∷ "motion test: a NaN coordinate counts" ∷ "motion test: the sum over coordinates" ∷
    "motion test: the last coordinate alone" ∷ "residual: a NaN row turns it NaN" ∷ "ray: hi need not be infinite" ∷ [])
    (solving (problem (0x0000000000000001 ∷ []) (0xC008000000000000 ∷ []) (∞ ∷ []) (0x6126C2D4256FFCC3 ∷ [])
    (one ∷ []) (−one ∷ []) one) (0 ∷ []) (solves (counts 1 1 true false 0 0)) (0 ∷ []) (nan_bits ∷ []) (7 ∷ [])) ∷
    showing
    ("state: AtLo only on lo itself" ∷ "state: AtHi before AtLo" ∷ "pass: the last of equally blocked rows" ∷
    "states: those that the multipliers show in an exact answer" ∷ [])
    (solving (problem (0x3FE0000000000000 ∷ []) (0xBEA0C6F7A0B5ED8E ∷ []) (0 ∷ []) (0x3EB0C6F7A0B5ED8E ∷ [])
    (0x408F400000000000 ∷ []) [] 0) (0 ∷ []) (solves (counts 1 1 true true 0 0)) (0 ∷ []) (0x3EB0C6F7A0B5ED8E ∷ [])
    (7 ∷ [])) ∷
    showing
    ("pass: what the free rows leave not over W_ii" ∷ "pass: along the residual the wrong way" ∷ "ray: only where the quadratic part is at most 0" ∷
    "ray: entries up to 1e-9 dropped, not 1e-9 of the largest" ∷ [])
    (solving (problem (0x3E112E0BE826D695 ∷ []) (one ∷ []) (−∞ ∷ []) (∞ ∷ []) (one ∷ []) (one ∷ 0 ∷ −one ∷ []) ∞)
    (−∞ ∷ []) (fights cause.Pass (0 ∷ []) (counts 1 1 false false 0 0)) (0 ∷ []) (nan_bits ∷ []) (0 ∷ [])) ∷ []

pub first-table : all first ≡ true
unfolding first passes
first-table = refl

unfoldable pub second : List Row
second =
    showing
    ("one true sweep, and its report for any number" ∷ "pass: 8 acting + 7 moves" ∷ "pass: 8 acting + 9 moves" ∷
    "a failed pass leaves its multipliers" ∷ "motion test: left out" ∷ "motion test: without |.|" ∷ [])
    (solving (problem (one ∷ 0x4008000000000000 ∷ 0x4008000000000000 ∷ one ∷ []) (0 ∷ 0xC008000000000000 ∷ [])
    (−∞ ∷ 0 ∷ []) (∞ ∷ ∞ ∷ []) (0x3E112E0BE826D695 ∷ one ∷ []) (two ∷ 0xC008000000000000 ∷ []) 0x3E112E0BE826D695)
    (one ∷ 0 ∷ []) (fights cause.Growth (0 ∷ []) (counts 2 1 false false 0x4232DBF9EA000000 0)) (0 ∷ 0 ∷ [])
    (0xC022000000000000 ∷ 0x403E000000000000 ∷ []) (0 ∷ 7 ∷ [])) ∷
    showing
    ("pass: the least norm of unscaled multipliers" ∷ "motion test: < for <=" ∷ "residual test: < for <= at 1e-9" ∷
    "ray: < for <= where small entries are dropped" ∷ "ray: only zero entries dropped" ∷ [])
    (solving (problem (one ∷ 0xBFE0000000000000 ∷ −one ∷ 0x3FE0000000000000 ∷ [])
    (0x3FE0000000000000 ∷ 0x3FE0000000000000 ∷ []) (−∞ ∷ −∞ ∷ []) (∞ ∷ ∞ ∷ []) (0x41CDCD6500000000 ∷ one ∷ [])
    (−one ∷ 0 ∷ []) 0x3FE0000000000000) (0 ∷ 0 ∷ []) (solves (counts 1 1 true false 0x3E112E0BE826D695 0))
    (0 ∷ 0 ∷ []) (0xBFE0000000000000 ∷ −two ∷ []) (7 ∷ 7 ∷ [])) ∷
    showing
    ("growth: >= for > at a million scales" ∷ "growth: |nu| / scale > 1e6" ∷ [])
    (solving (problem (one ∷ []) (0xC135F5C0DA1BCB9C ∷ []) (−∞ ∷ []) (∞ ∷ []) (0x3FF706D5EB0B4545 ∷ []) [] 0) (0 ∷ [])
    (solves (counts 1 1 true true 0 0)) (0 ∷ []) (0x4135F5C0DA1BCB9C ∷ []) (7 ∷ [])) ∷
    showing
    ("Idle not where W_ii is NaN" ∷ [])
    (solving (problem
    (nan_bits ∷ −one ∷ −one ∷ one ∷ −one ∷ 0x8010000000000000 ∷ 0 ∷ −one ∷ −one ∷ 0 ∷ −∞ ∷ 0 ∷ one ∷ −one ∷ 0 ∷ 0x8010000000000000 ∷ [])
    (0xC008000000000000 ∷ two ∷ 0 ∷ −one ∷ []) (−two ∷ −two ∷ 0 ∷ 0x8000000000000000 ∷ [])
    (one ∷ ∞ ∷ 0x4008000000000000 ∷ two ∷ []) (0x3FE0000000000000 ∷ one ∷ two ∷ 0x3FE0000000000000 ∷ []) [] 0)
    (0 ∷ one ∷ 0x8000000000000000 ∷ 0x8000000000000000 ∷ []) (solves (counts 0 0 true true 0 4)) (3 ∷ 3 ∷ 3 ∷ 3 ∷ [])
    (0 ∷ 0 ∷ 0 ∷ 0 ∷ []) (7 ∷ 7 ∷ 7 ∷ 7 ∷ [])) ∷
    showing
    ("row sum: u_free added last" ∷ [])
    (solving (problem (0x4008000000000000 ∷ 0xBFE0000000000000 ∷ 0x3FE0000000000000 ∷ one ∷ [])
    (0 ∷ 0x4008000000000000 ∷ []) (0 ∷ −∞ ∷ []) (∞ ∷ ∞ ∷ []) (0x3E112E0BE826D695 ∷ one ∷ []) [] 0) (0 ∷ one ∷ [])
    (fights cause.Growth (0 ∷ []) (counts 1 0 false false 0x41A3DE4355555555 0)) (0 ∷ 0 ∷ [])
    (0x3FC5555555555555 ∷ 0xC008AAAAAAAAAAAC ∷ []) (0 ∷ 7 ∷ [])) ∷ []

pub second-table : all second ≡ true
unfolding second passes
second-table = refl

unfoldable pub third : List Row
third =
    showing
    ("residual: Idle rows counted" ∷ [])
    (solving (problem (0xC008000000000000 ∷ 0x4008000000000000 ∷ −one ∷ four ∷ []) (one ∷ −two ∷ [])
    (−two ∷ 0xC008000000000000 ∷ []) (0 ∷ −one ∷ []) (one ∷ 0x3E112E0BE826D695 ∷ []) [] 0) (0 ∷ 0 ∷ [])
    (fights cause.Growth (1 ∷ []) (counts 1 0 false false 0 1)) (3 ∷ 0 ∷ []) (0 ∷ −one ∷ []) (1 ∷ 7 ∷ [])) ∷
    showing
    ("pass: a blocked row is not put on its bound" ∷ [])
    (solving (problem (one ∷ []) (0xC008000000000000 ∷ []) (0x3FF71B0B065C6102 ∷ []) (0x3FDC6C2C19718408 ∷ [])
    (one ∷ []) [] 0x3E112E0BE826D695) (two ∷ []) (solves (counts 1 1 true true 0 0)) (2 ∷ [])
    (0x3FDC6C2C19718408 ∷ []) (7 ∷ [])) ∷
    showing
    ("pass: a NaN left by the free rows counts" ∷ [])
    (solving (problem (one ∷ []) (nan_bits ∷ []) (0 ∷ []) (∞ ∷ []) (one ∷ []) [] 0) (0 ∷ []) (solves (counts 1 1 true true 0 0)) (0 ∷ []) (nan_bits ∷ []) (7 ∷ [])) ∷
    showing
    ("state: lo need not be finite" ∷ [])
    (solving (problem (one ∷ []) (−∞ ∷ []) (∞ ∷ []) (0x4014000000000000 ∷ []) (one ∷ []) [] 0) (∞ ∷ []) (solves (counts 1 1 true true 0 0)) (2 ∷ []) (0x4014000000000000 ∷ []) (7 ∷ [])) ∷
    showing
    ("ray: a linear part of 0 goes on" ∷ [])
    (solving (problem (0x4008000000000000 ∷ []) (0xFFEFFFFFFFFFFFFF ∷ []) (−∞ ∷ []) (0x4008000000000000 ∷ [])
    (one ∷ []) (−one ∷ 0 ∷ −one ∷ []) one) (−∞ ∷ []) (solves (counts 1 1 true false 0 0)) (0 ∷ []) (nan_bits ∷ [])
    (7 ∷ [])) ∷
    showing
    ("pass: release of the first row, not the hardest pushed" ∷ "states: not those that the multipliers show after sweeps alone" ∷ [])
    (solving (problem (0x4008000000000000 ∷ 0xC008000000000000 ∷ 0xC008000000000000 ∷ one ∷ [])
    (−two ∷ 0xBFE0000000000000 ∷ []) (0 ∷ −one ∷ []) (∞ ∷ one ∷ []) (0x41CDCD6500000000 ∷ one ∷ []) [] 0) (0 ∷ 0 ∷ [])
    (solves (counts 1 1 true false 0x3E112E0BE826D694 0)) (1 ∷ 2 ∷ []) (0x3FE5555555555555 ∷ one ∷ [])
    (7 ∷ 7 ∷ [])) ∷ []

pub third-table : all third ≡ true
unfolding third passes
third-table = refl

unfoldable pub fourth : List Row
fourth =
    showing
    ("ray: a NaN linear part rejects" ∷ "ray: < for <= 0 in the quadratic part" ∷ [])
    (solving (problem (0x2050000000000000 ∷ 0xA050000000000000 ∷ 0xA050000000000000 ∷ 0x2050000000000000 ∷ [])
    (0xE028000000000000 ∷ 0x6010000000000000 ∷ []) (0 ∷ 0 ∷ []) (∞ ∷ ∞ ∷ [])
    (0x7EA2AA4F4A405BE2 ∷ 0x7EA2AA4F4A405BE2 ∷ []) [] 0) (0 ∷ 0 ∷ [])
    (fights cause.Pass (0 ∷ 1 ∷ []) (counts 1 1 false false 0x410B6E3D22865634 0)) (0 ∷ 0 ∷ [])
    (0x7FC8000000000000 ∷ 0x7FC0000000000000 ∷ []) (0 ∷ 1 ∷ [])) ∷
    showing
    ("pass: 8 acting moves" ∷ "ray: lo need not be infinite" ∷ [])
    (solving (problem (0x3FE0000000000000 ∷ 0x4008000000000000 ∷ −one ∷ 0x3FE0000000000000 ∷ []) (0 ∷ two ∷ [])
    (0 ∷ −one ∷ []) (∞ ∷ one ∷ []) (0x3E112E0BE826D695 ∷ one ∷ []) [] 0) (one ∷ 0 ∷ [])
    (fights cause.Growth (0 ∷ []) (counts 2 1 false false 0x41F65A0BC0000000 0)) (1 ∷ 1 ∷ [])
    (0x4018000000000000 ∷ one ∷ []) (0 ∷ 7 ∷ [])) ∷
    showing
    ("pass: no floor of room at 0" ∷ [])
    (solving (problem (0x3FF48A94675AC406 ∷ 0xBFC540162E0A18CC ∷ 0xBFC540162E0A18CC ∷ 0x3FFCD5953602DB84 ∷ [])
    (0xBFBEA7B311009340 ∷ 0xC004B289E28A503A ∷ []) (−one ∷ 0x3FD1EBD5C915E768 ∷ []) (one ∷ 0xBFE3BFD7049DBC96 ∷ [])
    (one ∷ one ∷ []) [] 0) (0 ∷ 0 ∷ []) (solves (counts 1 1 true true 0 0)) (0 ∷ 2 ∷ [])
    (0x3F8B92E4FB659828 ∷ 0xBFE3BFD7049DBC96 ∷ []) (7 ∷ 7 ∷ [])) ∷ []

pub fourth-table : all fourth ≡ true
unfolding fourth passes
fourth-table = refl

unfoldable pub fifth : List Row
fifth =
    showing
    ("pass: >= for > at 1e-9 in what the free rows leave" ∷ [])
    (solving (problem (one ∷ 0 ∷ 0 ∷ 0x3AF0000000000000 ∷ []) (−one ∷ 0xBAF0000000000000 ∷ []) (0 ∷ −∞ ∷ [])
    (∞ ∷ ∞ ∷ []) (one ∷ 0x41CDCD6500000000 ∷ []) [] 0) (0 ∷ 0 ∷ [])
    (solves (counts 1 1 true true 0x3E112E0BE826D695 0)) (0 ∷ 0 ∷ []) (one ∷ 0 ∷ []) (7 ∷ 7 ∷ [])) ∷
    showing
    ("no ray after a sweep" ∷ [])
    (solving (problem (0x3FD83846184C5F99 ∷ 0xBFFB0E1FDE35F64C ∷ 0xBFE3CA425C746E08 ∷ 0x3FDACE27FB4DE7F5 ∷ [])
    (0xBFF95749D9C6A096 ∷ 0xBFFA397C77A724D6 ∷ []) (0 ∷ 0 ∷ []) (∞ ∷ ∞ ∷ [])
    (0x3FEA9C3186182C1D ∷ 0x3FF15BA48B348D8A ∷ []) [] 0) (0 ∷ 0 ∷ [])
    (fights cause.Sweep (0 ∷ 1 ∷ []) (counts 1 1 false false 0x404B1DDA41A9721D 0)) (0 ∷ 0 ∷ [])
    (0x4010BD9B42476228 ∷ 0x40242FA61755460C ∷ []) (0 ∷ 1 ∷ [])) ∷
    showing
    ("pass: Idle columns left out of the target" ∷ [])
    (solving (problem (four ∷ one ∷ one ∷ 0xC008000000000000 ∷ []) (0xBFE0000000000000 ∷ 0 ∷ [])
    (−∞ ∷ 0xC008000000000000 ∷ []) (∞ ∷ −two ∷ []) (one ∷ one ∷ []) [] 0) (0 ∷ one ∷ [])
    (solves (counts 1 1 true true 0 1)) (0 ∷ 3 ∷ []) (0x3FE4000000000000 ∷ −two ∷ []) (7 ∷ 7 ∷ [])) ∷ []

pub fifth-table : all fifth ≡ true
unfolding fifth passes
fifth-table = refl

unfoldable pub sixth : List Row
sixth =
    showing
    ("ray: the farthest left out" ∷ [])
    (solving (problem (one ∷ 0 ∷ 0 ∷ 0x3BA0000000000000 ∷ []) (−one ∷ 0xBBA0000000000000 ∷ []) (0 ∷ −one ∷ [])
    (∞ ∷ ∞ ∷ []) (one ∷ 0x41BDCD6500000003 ∷ []) [] 0) (0 ∷ 0 ∷ []) (solves (counts 1 1 true false 0 0)) (0 ∷ 0 ∷ [])
    (one ∷ one ∷ []) (7 ∷ 7 ∷ [])) ∷
    showing
    ("a ray of the pass leaves the pass's multipliers" ∷ [])
    (solving (problem (0x2140000000000000 ∷ 0xA140000000000000 ∷ 0xA140000000000000 ∷ 0x2140000000000000 ∷ [])
    (0xDFF8000000000000 ∷ 0x5FD0000000000000 ∷ []) (−∞ ∷ 0 ∷ []) (∞ ∷ ∞ ∷ [])
    (0x7EA2AA4F4A405BE2 ∷ 0x7EA2AA4F4A405BE2 ∷ []) [] 0) (0 ∷ 0 ∷ [])
    (fights cause.Pass (0 ∷ []) (counts 1 1 false false 0x3FF124E63593F5E0 0)) (0 ∷ 1 ∷ [])
    (0x7EA8000000000000 ∷ 0x7EA4000000000000 ∷ []) (0 ∷ 7 ∷ [])) ∷
    showing
    ("ray: >= for > at a million" ∷ [])
    (solving (problem (two ∷ 0x3FE0000000000000 ∷ 0x3FE0000000000000 ∷ 0x3F50624DD2F1A9FC ∷ [])
    (0xC008000000000000 ∷ −one ∷ []) (−∞ ∷ −∞ ∷ []) (∞ ∷ ∞ ∷ []) (0x41CDCD6500000000 ∷ 0x3F50624DD2F1A9FC ∷ []) [] 0)
    (one ∷ −one ∷ []) (fights cause.Growth (1 ∷ []) (counts 2 1 false false 0x3ED083DBC23315D7 0)) (0 ∷ 0 ∷ [])
    (0xC03DC00000000000 ∷ 0x40CF018000000000 ∷ []) (1 ∷ 7 ∷ [])) ∷ []

pub sixth-table : all sixth ≡ true
unfolding sixth passes
sixth-table = refl

unfoldable pub seventh : List Row
seventh =
    showing
    ("at most 199 sweeps" ∷ "at most 201 sweeps" ∷ "no pass at sweep 200" ∷ "no pass at sweep 128" ∷ "a pass at sweep 3" ∷ [])
    (solving (problem (0x0010000000000000 ∷ []) (0xC008000000000000 ∷ []) (0x3E112E0BE826D695 ∷ [])
    (0x0000000000000003 ∷ []) (one ∷ []) [] nan_bits) (nan_bits ∷ []) (solves (counts 200 9 false false 0 0)) (0 ∷ [])
    (nan_bits ∷ []) (7 ∷ [])) ∷ []

pub seventh-table : all seventh ≡ true
unfolding seventh passes
seventh-table = refl

unfoldable pub eighth : List Row
eighth =
    showing
    ("pass: release of the last of equals" ∷ [])
    (solving (problem
    (0x4008000000000000 ∷ −one ∷ 0xC008000000000000 ∷ −one ∷ 0x3FE0000000000000 ∷ 0x3FE0000000000000 ∷ 0xC008000000000000 ∷ 0x3FE0000000000000 ∷ four ∷ [])
    (two ∷ 0xBFE0000000000000 ∷ 0x3FE0000000000000 ∷ []) (−∞ ∷ −one ∷ −one ∷ []) (−one ∷ one ∷ one ∷ [])
    (one ∷ one ∷ 0x3FE0000000000000 ∷ []) [] 0) (two ∷ 0 ∷ 0 ∷ []) (solves (counts 1 1 true true 0 0))
    (0 ∷ 1 ∷ 1 ∷ []) (−two ∷ −one ∷ −one ∷ []) (7 ∷ 7 ∷ 7 ∷ [])) ∷ []

pub eighth-table : all eighth ≡ true
unfolding eighth passes
eighth-table = refl

unfoldable pub ninth : List Row
ninth =
    showing
    ("ray: y (W y) for (y W) y" ∷ [])
    (solving (problem (one ∷ 0xBFEFFFFFFC741C46 ∷ 0 ∷ 0xBFEFFFFFFC718C79 ∷ one ∷ 0 ∷ 0 ∷ 0 ∷ one ∷ [])
    (0xBFEB0075EA4C9D8E ∷ 0xBFF02EFE6434C0AE ∷ 0xFFE1CCF385EBC8A0 ∷ []) (0 ∷ 0 ∷ 0 ∷ []) (∞ ∷ ∞ ∷ ∞ ∷ [])
    (0x40618763E05183FB ∷ 0x40618763E05183FB ∷ 0x7ED754E31CD072DA ∷ []) [] 0) (0 ∷ 0 ∷ 0x7FE1CCF385EBC8A0 ∷ [])
    (fights cause.Sweep (0 ∷ 1 ∷ []) (counts 2 2 false false 0x3F8B186B6A116626 0)) (0 ∷ 0 ∷ 0 ∷ [])
    (0x400597BA24DB8698 ∷ 0x400DAF39548F8E3D ∷ 0x7FE1CCF385EBC8A0 ∷ []) (0 ∷ 1 ∷ 7 ∷ [])) ∷ []

pub ninth-table : all ninth ≡ true
unfolding ninth passes
ninth-table = refl

unfoldable pub tenth : List Row
tenth =
    showing
    ("pass: 8 n + 8 moves" ∷ [])
    (solving (problem
    (0x3FCA988AB756135E ∷ 0xC004920545E693DC ∷ 0x40018EDB0C0346CB ∷ 0 ∷ 0x3FF1223AA20DB230 ∷ 0x3FE63CD77C654D5A ∷ 0xBFF5216C54229977 ∷ 0 ∷ 0xBFFD3B1B05A2E33A ∷ 0x3FFFC20410944D22 ∷ 0x3FEDE4AC24FCF09A ∷ 0 ∷ 0 ∷ 0 ∷ 0 ∷ 0 ∷ [])
    (0xBFEBD4F84EFFAA3C ∷ 0xBFF0507E618D495C ∷ 0xBFF2059BDB35740C ∷ 0 ∷ []) (0 ∷ 0 ∷ 0 ∷ 0 ∷ []) (∞ ∷ ∞ ∷ ∞ ∷ ∞ ∷ [])
    (one ∷ one ∷ one ∷ one ∷ []) [] nan_bits) (0 ∷ 0 ∷ 0 ∷ 0 ∷ [])
    (fights cause.Growth (2 ∷ []) (counts 7 3 false false 0x413129173D1078A9 1)) (0 ∷ 1 ∷ 1 ∷ 3 ∷ [])
    (0x411F8CB410CA1722 ∷ 0 ∷ 0x412ED9C01366398E ∷ 0 ∷ []) (2 ∷ 7 ∷ 7 ∷ 7 ∷ [])) ∷ []

pub tenth-table : all tenth ≡ true
unfolding tenth passes
tenth-table = refl

unfoldable pub eleventh : List Row
eleventh =
    showing
    ("no motion test, residual test and ray after the pass of sweep 200" ∷ [])
    (solving (problem (one ∷ 0xBFEF800000000000 ∷ 0xBFEF800000000000 ∷ one ∷ [])
    (0xFE37E43C8800759C ∷ 0x7E37E43C8800759C ∷ []) (−∞ ∷ −∞ ∷ []) (∞ ∷ ∞ ∷ [])
    (0x7F76C8E5CA239029 ∷ 0x7F76C8E5CA239029 ∷ []) (one ∷ 0 ∷ []) 0x7D4790930DF90000) (0 ∷ 0 ∷ [])
    (solves (counts 200 9 true false 0x3DC008DEC9010F84 0)) (0 ∷ 0 ∷ [])
    (0x7E281FE719F3BA22 ∷ 0xFE2809119274FFFF ∷ []) (7 ∷ 7 ∷ [])) ∷ []

pub eleventh-table : all eleventh ≡ true
unfolding eleventh passes
eleventh-table = refl
