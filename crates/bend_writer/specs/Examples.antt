-- Worked pulls, as one table that the checker computes: each rule kept and broken at its limit, the order of the rules, and the bytes of a file, written out.
use Rattle.std.specs.Prelude.{◌≡◌, refl, Bool, true, false, ◌&&◌, List, [], ◌∷◌, ◌++◌, map, ℕ, zero, suc, ◌-◌, ◌*◌, ◌/◌, ◌%◌, eqb, length, replicate, Result, Ok, Err}
use Rattle.std.specs.Float.{binary64}
use Rattle.std.specs.Float.Ieee.{of_bits, to_bits}
use Rattle.loops.specs.Loops.{tab, turns}
use Rattle.loops.specs.Lists.{same}
use Rattle.refusals.specs.Numbers.{number}
use Rattle.refusals.specs.declared.Refusal.{Refusal}
use Rattle.bend_writer.specs.Bytes.{bytes16, bytes32, bytes64, pattern, patterns}
use Rattle.bend_writer.specs.Steps.{trailer, step_bytes, chained, file, fair, ruled, step_refusal, steps_refusal, refusal}
use Rattle.bend_writer.specs.Write.{part, before, step_at, lent, answer, left}

-- ---- what is lent, and what must come out

-- the steps' rows, coordinates and counts, and all values by their bits
record Lent : Type 0 where
  steps : ℕ
  rows : List ℕ
  coords : List ℕ
  counts : List ℕ
  values : List ℕ

data Case : Type 0 where
  -- to an output of that many bytes: that file
  gives : Lent → ℕ → List ℕ → Case
  -- that number, and nothing is written
  gets : Lent → ℕ → ℕ → Case

-- bytes as a hexadecimal number shows them, the first byte first
hex : ℕ → ℕ → List ℕ
hex zero x = []
hex (suc k) x = hex k (x / 256) ++ (x % 256 ∷ [])

-- the output before: what it holds stays where nothing is written
untouched : ℕ → List ℕ
untouched room = replicate room 0xEE

file_is : Result (List ℕ) Refusal → List ℕ → Bool
file_is (Err r) f = false
file_is (Ok g) f = same g f

number_is : Result (List ℕ) Refusal → ℕ → Bool
number_is (Err r) k = eqb (number r) k
number_is (Ok g) k = false

asked : Lent → ℕ → Result (List ℕ) Refusal
unfolding answer refusal steps_refusal step_refusal ruled fair file chained step_bytes trailer patterns pattern bytes64 bytes32 bytes16 lent step_at part before tab turns of_bits to_bits
asked p room = answer (lent p.steps p.rows p.coords p.counts (map (of_bits binary64) p.values)) room

passes : Case → Bool
passes (gives p room f) = file_is (asked p room) f && same (left (asked p room) (untouched room)) (f ++ untouched (room - length f))
passes (gets p room k) = number_is (asked p room) k && same (left (asked p room) (untouched room)) (untouched room)

every : List Case → Bool
every [] = true
every (c ∷ l) = passes c && every l

-- ---- pulls

abbrev 1ᵇ : ℕ
1ᵇ = 0x3FF0000000000000

-- document 01's example: n 1, W 2, u_free -4, lo 0, hi +∞, scale 1, nu 0, motion 1, tolerance 0
example : List ℕ
example = 0x4000000000000000 ∷ 0xC010000000000000 ∷ 0 ∷ 0x7FF0000000000000 ∷ 1ᵇ ∷ 0 ∷ 1ᵇ ∷ 0 ∷ []

-- one step
one : ℕ → ℕ → ℕ → List ℕ → Lent
one n c count values = record { steps = 1; rows = n ∷ []; coords = c ∷ []; counts = count ∷ []; values = values }

-- so many steps of no rows, with a tolerance each
bare : List ℕ → Lent
bare values =
    let k = length values in
    record { steps = k; rows = replicate k 0; coords = replicate k 0; counts = replicate k 1; values = values }

-- two steps
two : ℕ → ℕ → ℕ → ℕ → ℕ → ℕ → List ℕ → Lent
two n c count m d count' values = record { steps = 2; rows = n ∷ m ∷ []; coords = c ∷ d ∷ []; counts = count ∷ count' ∷ []; values = values }

-- k steps of no rows, after one of that many
after : ℕ → ℕ → Lent
after n k = record { steps = suc k; rows = n ∷ []; coords = []; counts = replicate (suc k) 1; values = replicate (suc k) 1ᵇ }

example_file : List ℕ
example_file = hex 84 0x00000000000000000000004000000000000010C00000000000000000000000000000F07F000000000000F03F0000000000000000000000000000F03F000000000000000004000000010001000800000042454E44

cases : List Case
cases =
    -- 44, 45: one step; with room to spare, what lies past stays
    gives (one 1 1 8 example) 84 example_file ∷
    gives (one 1 1 8 example) 100 example_file ∷
    -- 46: two steps, the link 84 and start 4 again
    gives (two 1 1 8 0 0 1 (example ++ (1ᵇ ∷ []))) 112 (example_file ++ hex 28 0x54000000000000000000F03F04000000000000000100000042454E44) ∷
    -- 47: three steps, oldest first
    gives (bare (1ᵇ ∷ 0x3FF0000000000001 ∷ 0x3FF0000000000002 ∷ [])) 84
    (hex 28 0x00000000000000000000F03F04000000000000000100000042454E44 ++
    hex 28 0x1C000000010000000000F03F04000000000000000100000042454E44 ++
    hex 28 0x38000000020000000000F03F04000000000000000100000042454E44) ∷
    -- 48, 52: none, with room and without
    gets (bare []) 100 15 ∷
    gets (bare []) 0 15 ∷
    -- 49: 40 steps are taken; the output one byte short
    gets (after 0 39) 1119 10 ∷
    -- 50, 51: 41 steps, also where the first has 33 rows
    gets (after 0 40) 2000 15 ∷
    gets (after 33 40) 2000 15 ∷
    -- 53, 54: 33 rows; 32 rows and 65 coordinates
    gets (one 33 0 1255 []) 100 3 ∷
    gets (one 32 65 3265 []) 100 3 ∷
    -- 32 rows and 64 coordinates, 31 and 66, 1 and 2,048 pass 3, and one coordinate more does not
    gets (one 32 64 0 []) 100 4 ∷
    gets (one 31 66 0 []) 100 4 ∷
    gets (one 31 67 0 []) 100 3 ∷
    gets (one 1 2048 0 []) 100 4 ∷
    gets (one 1 2049 0 []) 100 3 ∷
    -- 56, 57: no rows, with 65,535 coordinates and with one more
    gives (one 0 65535 1 (1ᵇ ∷ [])) 28 (hex 28 0x00000000000000000000F03F040000000000FFFF0100000042454E44) ∷
    gets (one 0 65536 1 (1ᵇ ∷ [])) 28 3 ∷
    -- 58, 59: a count one short and one over
    gets (one 1 1 7 example) 100 4 ∷
    gets (one 1 1 9 (example ++ (0 ∷ []))) 100 4 ∷
    -- 60, 61: 3 before 4
    gets (one 33 0 0 []) 100 3 ∷
    gets (one 0 65536 0 []) 100 3 ∷
    -- 62, 63: the oldest step's number
    gets (two 1 1 7 33 0 0 example) 100 4 ∷
    gets (two 33 0 0 1 1 7 example) 100 3 ∷
    -- 64, 65, 66: 10 after all steps
    gets (two 1 1 8 0 0 1 (example ++ (1ᵇ ∷ []))) 111 10 ∷
    gets (two 1 1 8 0 0 0 example) 10 4 ∷
    gets (one 0 0 1 (1ᵇ ∷ [])) 0 10 ∷
    -- 67: every NaN is written as one
    gives (one 0 0 1 (0xFFF0000000000001 ∷ [])) 28 (hex 28 0x00000000000000000000F87F04000000000000000100000042454E44) ∷
    -- 68: -0, an infinity and the smallest number keep their bits
    gives (bare (0x8000000000000000 ∷ 0xFFF0000000000000 ∷ 1 ∷ [])) 84
    (hex 28 0x00000000000000000000008004000000000000000100000042454E44 ++
    hex 28 0x1C000000000000000000F0FF04000000000000000100000042454E44 ++
    hex 28 0x38000000010000000000000004000000000000000100000042454E44) ∷
    -- values that run out get 4, also where as many are left as the step needs; values past the last step are not looked at
    gets (one 1 1 8 (1ᵇ ∷ [])) 100 4 ∷
    gets (one 1 1 100 example) 100 4 ∷
    gets (two 1 1 8 0 0 1 example) 200 4 ∷
    gives (one 1 1 8 (example ++ (1ᵇ ∷ 1ᵇ ∷ []))) 84 example_file ∷
    -- numbers that no product of usizes holds
    gets (one 0xFFFFFFFFFFFFFFFF 0xFFFFFFFFFFFFFFFF 0xFFFFFFFFFFFFFFFF example) 100 3 ∷
    gets (one 0 0 0xFFFFFFFFFFFFFFFF example) 100 4 ∷ []

table : every cases ≡ true
unfolding every cases passes asked file_is number_is untouched hex one bare two after example example_file
table = refl

-- 49: the file of 40 steps has 1,120 bytes, and each link is 28 past the one before
forty : Bool
unfolding file chained step_bytes trailer patterns pattern bytes64 bytes32 bytes16 lent step_at part before tab turns of_bits to_bits
forty =
    same (file (lent 40 [] [] (replicate 40 1) (map (of_bits binary64) (replicate 40 1ᵇ))))
    (turns 40 [] λ i f. f ++ (28 * i % 256 ∷ 28 * i / 256 ∷ []) ++ hex 26 0x0000000000000000F03F04000000000000000100000042454E44)

forty-steps : forty ≡ true
unfolding forty hex
forty-steps = refl
