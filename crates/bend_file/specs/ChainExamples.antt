-- Worked chains, as one table that the checker computes: each rule kept and broken at its limit, and which rule comes
-- first. The numbers are those of the replayed files in crates/replay_chains/data, where the chains too large to
-- compute here stand too.
use Rattle.std.specs.Prelude.{◌≡◌, refl, Bool, true, false, ◌&&◌, List, [], ◌∷◌, ◌++◌, ℕ, zero, suc, ◌+◌, ◌-◌, ◌*◌, eqb, length, take, drop, replicate, Result, Ok, Err}
use Rattle.std.specs.Float.Ieee.{of_bits, to_bits}
use Rattle.loops.specs.Loops.{tab, turns}
use Rattle.loops.specs.Lists.{same_by}
use Rattle.bend_file.specs.Little.{u16, u32, u64, value, values}
use Rattle.bend_file.specs.Trailer.{start, rows, coords, count, marked, counted, trailer_refusal}
use Rattle.bend_file.specs.Read.{Problem, problem}
use Rattle.refusals.specs.Numbers as numbers
use Rattle.refusals.specs.declared.Refusal.{Refusal}
use Rattle.bend_file.specs.Chain as chain
use Rattle.bend_file.specs.Examples.{two, four, eight, patterns, mark, trailer, bits, Bits, same, 1ᵇ, nan_bits, example, example_bits, none, free}

-- ---- files, written out

-- link, values by their bits, start, rows, coords, count
step : ℕ → List ℕ → ℕ → ℕ → ℕ → ℕ → List ℕ
step l v s n c k = four l ++ patterns v ++ trailer s n c k

-- document 01's example as a step
ex : ℕ → ℕ → List ℕ
ex l s = four l ++ example ++ trailer s 1 1 8

-- a step of no rows, 28 bytes: link, start, and a tolerance whose bits are those of 1 and j more
bare : ℕ → ℕ → ℕ → List ℕ
bare l s j = step l ((1ᵇ + j) ∷ []) s 0 0 1

-- k such steps after some zeros, the first with that link; the bits of the tolerances rise by j
rising : ℕ → ℕ → ℕ → ℕ → List ℕ
rising zeros first j zero = replicate zeros 0
rising zeros first j (suc zero) = replicate zeros 0 ++ bare first 4 0
rising zeros first j (suc (suc k)) = rising zeros first j (suc k) ++ bare (zeros + 28 * suc k) 4 (j * suc k)

-- the last byte of the mark wrong
torn : List ℕ → List ℕ
torn f = take (length f - 1) f ++ (0x58 ∷ [])

-- ---- a case: a file, and its steps, newest first, or its number

data Case : Type 0 where
  gives : List ℕ → List Bits → Case
  gets : List ℕ → ℕ → Case

reads : Result (List Problem) Refusal → List Bits → Bool
reads (Err r) b = false
reads (Ok l) b = same_by same l b

numbered : Result (List Problem) Refusal → ℕ → Bool
numbered (Err r) k = eqb (numbers.number r) k
numbered (Ok l) k = false

passes : Case → Bool
unfolding
    chain.pull chain.ends chain.settled chain.walked chain.turn chain.step chain.passed chain.follow chain.step_refusal
    chain.link_refusal chain.preceded chain.backward chain.reaching_from chain.link chain.link_at chain.step_problem problem
    trailer_refusal marked counted start rows coords count value values u16 u32 u64 tab turns of_bits to_bits
passes (gives f b) = reads (chain.pull f) b
passes (gets f k) = numbered (chain.pull f) k

every : List Case → Bool
every [] = true
every (c ∷ l) = passes c && every l

-- a step of no rows, by the bits of its tolerance
one : ℕ → Bits
one j = none 0 (1ᵇ + j)

-- k of them, the bits of the first one above those of the last
falling : ℕ → List Bits
falling zero = []
falling (suc k) = one k ∷ falling k

few : List Case
few =
    -- 1: one step, no free bytes
    gives (ex 0 4) (example_bits ∷ []) ∷
    -- 2: one step, free bytes before the link
    gives (free 7 ++ ex 0 11) (example_bits ∷ []) ∷
    -- 3: two steps
    gives (ex 0 4 ++ bare 84 4 0) (one 0 ∷ example_bits ∷ []) ∷
    -- 4: two steps, free bytes between: start and length count from the linked offset
    gives (ex 0 4 ++ replicate 5 0xAA ++ bare 84 9 0) (one 0 ∷ example_bits ∷ []) ∷
    -- 5: free bytes that hold a whole trailer are not looked at
    gives (ex 0 4 ++ trailer 0 0 0 1 ++ bare 84 20 0) (one 0 ∷ example_bits ∷ []) ∷
    -- 6: link equals its own offset (no free bytes): not above
    gives (bare 0 4 0 ++ bare 28 4 1 ++ bare 56 4 2) (one 2 ∷ one 1 ∷ one 0 ∷ []) ∷
    -- 7: a single bend file with start 0: no four bytes before the numbers: 14
    gets (example ++ trailer 0 1 1 8) 14 ∷
    -- 8: three bytes before the numbers: 14
    gets (replicate 3 0 ++ eight 1ᵇ ++ trailer 3 0 0 1) 14 ∷
    -- 9: numbers that would begin before the file: 14, not 4
    gets (trailer 0 0 0 1) 14 ∷
    -- 10: the same with a broken length rule too: 14 comes first
    gets (eight 0 ++ trailer 9 0 0 1) 14 ∷
    -- 11: count rule broken and fewer than four bytes: 4 comes first
    gets (trailer 0 0 0 2) 4 ∷
    -- 12: link one above its own offset: 14
    gets (ex 0 4 ++ bare 85 3 0) 14 ∷
    -- 13: link above its own offset and a broken length rule: 14
    gets (ex 0 4 ++ bare 85 99 0) 14 ∷
    -- 14: link far past the file: 14
    gets (ex 0 4 ++ bare 0xFFFFFFFF 4 0) 14 ∷
    -- 15: link at the numbers' own place (own offset + 4): 14
    gets (ex 0 4 ++ bare 88 0 0) 14 ∷
    -- 16: start counts from 0 and not from the linked offset: 4
    gets (ex 0 4 ++ bare 84 88 0) 4 ∷
    -- 17: start counts from after the link: 4
    gets (ex 0 4 ++ bare 84 0 0) 4 ∷
    -- 18: start FFFFFFFC (-4): 4; once 14 is past, the length rule cannot hold modulo 2^32 alone
    gets (ex 0 4 ++ bare 84 0xFFFFFFFC 0) 4 ∷
    -- 19: link 15: the step itself is right, so 1 as the previous step's end
    gets (replicate 15 0 ++ bare 15 4 0) 1 ∷
    -- 20: link 1
    gets (replicate 1 0 ++ bare 1 4 0) 1 ∷
    -- 21: link 15 and this step's length rule broken: 4 comes first
    gets (replicate 15 0 ++ bare 15 5 0) 4 ∷
    -- 22: link 16: the previous step's mark is looked at: 2
    gets (replicate 16 0 ++ bare 16 4 0) 2 ∷
    -- 23: link 16 to a bare trailer: its numbers do not fit: 14
    gets (trailer 0 0 0 1 ++ bare 16 4 0) 14 ∷
    -- 24: link 27 to 27 bytes that end with a good trailer: three bytes before the number: 14
    gets (replicate 3 0 ++ eight 1ᵇ ++ trailer 3 0 0 1 ++ bare 27 4 0) 14 ∷
    -- 25: an older step's mark is wrong: the whole is refused 2
    gets (torn (bare 0 4 0) ++ bare 28 4 0) 2 ∷
    -- 26: an older step has 33 rows: 3
    gets (step 0 (1ᵇ ∷ []) 4 33 0 1 ++ bare 28 4 0) 3 ∷
    -- 27: the newest has a wrong count, an older one a wrong mark: 4, newest first
    gets (torn (bare 0 4 0) ++ step 28 (1ᵇ ∷ []) 4 0 0 2) 4 ∷
    -- 28: the newest has a wrong mark, the older a wrong count: 2
    gets (step 0 (1ᵇ ∷ []) 4 0 0 2 ++ torn (bare 28 4 0)) 2 ∷
    -- 35: link written big-endian: 14
    gets (ex 0 4 ++ bare 0x54000000 4 0) 14 ∷
    -- 36: no bytes: 1
    gets [] 1 ∷
    -- 37: 15 bytes: 1
    gets (replicate 11 0 ++ mark) 1 ∷
    -- 38: coords 65,535 with no rows
    gives (step 0 (1ᵇ ∷ []) 4 0 65535 1) (none 65535 1ᵇ ∷ []) ∷
    -- 39: every NaN pattern is read as the NaN
    gives (step 0 (0xFFF0000000000001 ∷ []) 4 0 0 1) (none 0 nan_bits ∷ []) ∷ []

table : every few ≡ true
unfolding
    every few passes reads numbered same bits two four eight patterns mark trailer example example_bits none free
    step ex bare torn one
table = refl

-- around 40 steps, and past the old limit of 65,536 bytes
many : List Case
many =
    -- 29: 40 steps
    gives (rising 0 0 1 40) (falling 40) ∷
    -- 30: 41 steps: 15
    gets (rising 0 0 1 41) 15 ∷
    -- 31: 41 steps, the oldest with a wrong mark: 15 before anything of it
    gets (torn (bare 0 4 0) ++ drop 28 (rising 0 0 0 41)) 15 ∷
    -- 32: 40 steps above a link of 5: 15 before 1
    gets (rising 5 5 0 40) 15 ∷
    -- 33: 39 steps above a link of 5: 1
    gets (rising 5 5 0 39) 1 ∷
    -- 34: 41 steps, the newest with a wrong mark: 2
    gets (rising 0 0 1 40 ++ torn (bare 1120 4 0)) 2 ∷
    -- 42: 65,537 bytes: taken as a chain, refused 1 the old way
    gives (replicate 65509 0x11 ++ bare 0 65513 0) (one 0 ∷ []) ∷ []

long-table : every many ≡ true
unfolding
    every many passes reads numbered same bits two four eight patterns mark trailer example example_bits none free
    step ex bare rising torn one falling
long-table = refl
