-- The trailer of a bend file and document 01's rules. Definitions only. `end` is where the trailer ends: in a file by
-- itself, the file's length.
use Rattle.std.specs.Prelude.{ℕ, ◌+◌, ◌-◌, ◌*◌, ◌≤◌, Bool, not, cond, ◌&&◌, List, leb, eqb, length, Option, Some, None}
use Rattle.std.specs.Option.{option_or}
use Rattle.refusals.specs.declared.Refusal.{Refusal}
use Rattle.refusals.specs.declared.Refusal.TheVariants.{FileSize, FileMark, FileLimits, FileCount}
use Rattle.refusals.specs.Calls.{or_zero}
use Rattle.bend_file.specs.Little.{byte, u16, u32}

-- ---- the fields

-- the offset of the first value
unfoldable pub start : List ℕ → ℕ → ℕ
start f end = u32 f (end - 16)

unfoldable pub rows : List ℕ → ℕ → ℕ
rows f end = u16 f (end - 12)

unfoldable pub coords : List ℕ → ℕ → ℕ
coords f end = u16 f (end - 10)

-- how many values
unfoldable pub count : List ℕ → ℕ → ℕ
count f end = u32 f (end - 8)

-- ---- the rules

-- 1: 16 to 65,536 bytes
abbrev pub sized : ℕ → Bool
sized bytes = leb 16 bytes && leb bytes 65536

-- 2: the mark is 42 45 4E 44
unfoldable pub marked : List ℕ → ℕ → Bool
marked f end = eqb (byte f (end - 4)) 0x42 && eqb (byte f (end - 3)) 0x45 && eqb (byte f (end - 2)) 0x4E && eqb (byte f (end - 1)) 0x44

-- 3: at most 32 rows, and at most 2,048 values of motion
abbrev pub small : ℕ → ℕ → Bool
small n c = leb n 32 && leb (c * n) 2048

pub record Small (n c : ℕ) : Type 0 where
  pub few : n ≤ 32
  pub square : n * n ≤ 1024
  pub moving : c * n ≤ 2048

-- W, five values for each row, motion and the tolerance
abbrev pub wanted : ℕ → ℕ → ℕ
wanted n c = n * n + 5 * n + c * n + 1

-- 3 and 4 together: how many values a problem of n rows and c coordinates has, where one may have so many
abbrev pub value_count : ℕ → ℕ → Option ℕ
value_count n c = cond (small n c) (Some (wanted n c)) None

-- 4: the count rule
unfoldable pub counted : List ℕ → ℕ → Bool
counted f end = eqb (count f end) (wanted (rows f end) (coords f end))

-- 4: the length rule
unfoldable pub reaching : List ℕ → ℕ → Bool
reaching f end = eqb (start f end + 8 * count f end + 16) end

-- the first of the mark's and the fields' rules that is broken; none where all are kept
unfoldable pub trailer_refusal : List ℕ → ℕ → Option Refusal
trailer_refusal f end =
    cond (not (marked f end)) (Some FileMark)
    (cond (not (small (rows f end) (coords f end))) (Some FileLimits)
    (cond (not (counted f end)) (Some FileCount) None))

-- the first of all rules that the file breaks
unfoldable pub refusal : List ℕ → Option Refusal
refusal f =
    let end = length f in
    cond (not (sized end)) (Some FileSize)
    (option_or (trailer_refusal f end)
    (cond (not (reaching f end)) (Some FileCount) None))

-- its number; 0 where the file keeps them all
unfoldable pub number : List ℕ → ℕ
number f = or_zero (refusal f)
