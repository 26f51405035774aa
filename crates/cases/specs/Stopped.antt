-- How many rows the last sweep stopped, as one table: each tempting way to count that is wrong fails in at least one row.
-- The start's clamp and Idle rows do not count, a value that equals its bound is not stopped, each row is judged after the updates of the rows before it, only the last sweep
-- counts, and what a pass does afterwards does not matter.
use Rattle.std.specs.Prelude.{◌≡◌, refl, true, List, [], ◌∷◌}
use Rattle.cases.specs.Numbers.{∞, one, two, four, nan_bits, −∞, −one, −two, −four}
use Rattle.cases.specs.Cases.{Row, named, stopping, problem, passes, all}

unfoldable pub stopped : List Row
stopped =
    named "no rows"
    (stopping (problem [] [] [] [] [] [] 0) [] 0) ∷
    named "Idle alone: its clamp stops, but no sweep ran"
    (stopping (problem (0 ∷ []) (0 ∷ []) (0x4008000000000000 ∷ []) (0x4014000000000000 ∷ []) (one ∷ []) [] 0) (0 ∷ []) 0) ∷
    named "document 01's example: inside, none"
    (stopping (problem (two ∷ []) (−four ∷ []) (0 ∷ []) (∞ ∷ []) (one ∷ []) [] 0) (0 ∷ []) 0) ∷
    named "marked case 5: stopped low"
    (stopping (problem (one ∷ []) (four ∷ []) (0 ∷ []) (one ∷ []) (one ∷ []) [] 0) (0x3FE0000000000000 ∷ []) 1) ∷
    named "marked case 6: stopped high, state AtLo"
    (stopping (problem (one ∷ []) (−four ∷ []) (0 ∷ []) (0 ∷ []) (one ∷ []) [] 0) (0 ∷ []) 1) ∷
    named "v equals lo: none, though AtLo"
    (stopping (problem (one ∷ []) (0 ∷ []) (0 ∷ []) (∞ ∷ []) (one ∷ []) [] 0) (0 ∷ []) 0) ∷
    named "v equals hi: none, though AtHi"
    (stopping (problem (one ∷ []) (−one ∷ []) (0 ∷ []) (one ∷ []) (one ∷ []) [] 0) (0 ∷ []) 0) ∷
    named "marked case 8: row 1 AtLo by v = lo"
    (stopping (problem (one ∷ one ∷ one ∷ one ∷ []) (−two ∷ −two ∷ []) (0 ∷ 0 ∷ []) (∞ ∷ ∞ ∷ []) (one ∷ one ∷ []) [] 0) (0 ∷ 0 ∷ []) 0) ∷
    named "row 1 after row 0's update: stopped (before it: not)"
    (stopping (problem (one ∷ one ∷ one ∷ one ∷ []) (−two ∷ −one ∷ []) (0 ∷ 0 ∷ []) (∞ ∷ ∞ ∷ []) (one ∷ one ∷ []) [] 0) (0 ∷ 0 ∷ []) 1) ∷
    named "the start's clamp stops (9 to 5), the update does not"
    (stopping (problem (one ∷ []) (−one ∷ []) (0 ∷ []) (0x4014000000000000 ∷ []) (one ∷ []) [] 0) (0x4022000000000000 ∷ []) 0) ∷
    named "NaN: none"
    (stopping (problem (one ∷ []) (nan_bits ∷ []) (0 ∷ []) (∞ ∷ []) (one ∷ []) [] 0) (0 ∷ []) 0) ∷
    named "NaN bounds: none"
    (stopping (problem (one ∷ []) (four ∷ []) (nan_bits ∷ []) (nan_bits ∷ []) (one ∷ []) [] 0) (0 ∷ []) 0) ∷
    named "inverted box 1, -1: low, since v < lo comes first"
    (stopping (problem (one ∷ []) (0 ∷ []) (one ∷ []) (−one ∷ []) (one ∷ []) [] 0) (0 ∷ []) 1) ∷
    named "v = -0 at lo +0: none"
    (stopping (problem (one ∷ []) (0 ∷ []) (0 ∷ []) (∞ ∷ []) (one ∷ []) [] 0) (0x8000000000000000 ∷ []) 0) ∷
    named "growth beside a stopped row"
    (stopping (problem (0x3E70000000000000 ∷ 0 ∷ 0 ∷ one ∷ []) (−one ∷ four ∷ []) (0 ∷ 0 ∷ []) (∞ ∷ ∞ ∷ []) (one ∷ one ∷ []) [] 0) (0 ∷ 0 ∷ []) 1) ∷
    named "Idle row beside an acting one: only updates count"
    (stopping (problem (0 ∷ 0 ∷ 0 ∷ one ∷ []) (0 ∷ −one ∷ []) (0x4008000000000000 ∷ 0 ∷ []) (0x4014000000000000 ∷ ∞ ∷ []) (one ∷ one ∷ []) [] 0) (0 ∷ 0 ∷ []) 0) ∷
    named "a fight found in the pass"
    (stopping (problem (one ∷ −one ∷ 0 ∷ −one ∷ one ∷ 0 ∷ 0 ∷ 0 ∷ one ∷ []) (−one ∷ −one ∷ 0x4008000000000000 ∷ [])
    (0 ∷ 0 ∷ 0 ∷ []) (∞ ∷ ∞ ∷ one ∷ []) (one ∷ one ∷ one ∷ []) [] 0) (0 ∷ 0 ∷ 0 ∷ []) 1) ∷
    named "no upper limit and v = +inf: none, and no growth at scale 1e303"
    (stopping (problem (one ∷ []) (−∞ ∷ []) (0 ∷ []) (∞ ∷ []) (0x7ED754E31CD072DA ∷ []) [] 0) (0 ∷ []) 0) ∷
    named "several sweeps, converged by sweeps: the last one counts"
    (stopping (problem
    (0x3CD500BADD5F2BE5 ∷ 0xBCD367130705066B ∷ 0 ∷ 0 ∷ 0xBCD367130705066B ∷ 0x3CD500BADD5F2BE5 ∷ 0 ∷ 0 ∷ 0 ∷ 0 ∷ 0x3FEFFFFFFFFFFFFF ∷ 0 ∷ 0 ∷ 0 ∷ 0 ∷ 0x3FEFFFFFFFFFFFFF ∷ [])
    (0xBC91EB811CF51927 ∷ 0xBCAD37EA819AAD2D ∷ 0xBFDFFFFFFFFFFFFF ∷ 0xBFE8000000000000 ∷ [])
    (0xBFD8C530C9CD0FAC ∷ −∞ ∷ 0xBFE0000000000000 ∷ 0 ∷ []) (0x3FE25BB3CCDC701E ∷ ∞ ∷ 0x3FE0000000000000 ∷ ∞ ∷ [])
    (one ∷ one ∷ one ∷ one ∷ []) (one ∷ 0 ∷ 0 ∷ 0 ∷ 0 ∷ one ∷ 0 ∷ 0 ∷ []) 0)
    (0xBFE55203A8F21976 ∷ 0xBFD8D85EF0CC4CB0 ∷ 0x3F6A4DBA8C414600 ∷ 0x3FF656842EC4B569 ∷ []) 1) ∷
    named "a stopped row that the pass then moves inside"
    (stopping (problem (one ∷ 0xC024000000000000 ∷ 0x4024000000000000 ∷ one ∷ [])
    (0x3FE8000000000000 ∷ 0xBFE8000000000000 ∷ []) (0 ∷ 0 ∷ []) (∞ ∷ ∞ ∷ [])
    (0x4004000000000000 ∷ 0x3FB999999999999A ∷ [])
    (0x3FDFFCCAD4D5388C ∷ 0xBFE1E67A9B0578D8 ∷ 0xBFE996C4670C0478 ∷ 0xBFF1C58F579B29A7 ∷ 0x3F9F45436D83FFC0 ∷ 0xBFF069E445644C16 ∷ 0xBFE46E4522FAFD14 ∷ 0xBFED833AD76B3720 ∷ [])
    0x3E7AD7F29ABCAF48) (0xBFE46E75BE2A088A ∷ 0x3F92248A67D7B840 ∷ []) 1) ∷ []

pub stopped-table : all stopped ≡ true
unfolding stopped passes
stopped-table = refl
