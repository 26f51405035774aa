-- The steps of a pull as document 02's W1 has them written: the bytes of a step, those of a whole pull, and which rule a step breaks. Definitions only.
use Rattle.std.specs.Prelude.{ℕ, Bool, not, cond, ◌&&◌, List, [], ◌∷◌, ◌++◌, leb, eqb, Float, length, Option, Some, None}
use Rattle.std.specs.Option.{option_or}
use Rattle.refusals.specs.declared.Refusal.{Refusal}
use Rattle.refusals.specs.declared.Refusal.TheVariants.{FileLimits, FileCount, Short, Steps}
use Rattle.bend_file.specs.Trailer.{small, wanted}
use Rattle.bend_writer.specs.Bytes.{bytes16, bytes32, patterns}

-- the values in a bend file's order: W, u_free, lo, hi, scale, nu, motion, tolerance
pub record Step : Type 0 where
  pub rows : ℕ
  pub coords : ℕ
  pub values : List Float

-- ---- bytes

-- start, rows, coords, count, mark. Start counts from the linked offset, and the link's four bytes alone lie between the two.
unfoldable pub trailer : ℕ → ℕ → ℕ → List ℕ
trailer n c count = bytes32 4 ++ bytes16 n ++ bytes16 c ++ bytes32 count ++ (0x42 ∷ 0x45 ∷ 0x4E ∷ 0x44 ∷ [])

-- a step that begins where the previous step's trailer ends, at `base`, 0 for the first: the link there, the values, the trailer
unfoldable pub step_bytes : ℕ → Step → List ℕ
step_bytes base s = bytes32 base ++ patterns s.values ++ trailer s.rows s.coords (length s.values)

-- f, and after it the steps, oldest first
unfoldable pub chained : List ℕ → List Step → List ℕ
chained f [] = f
chained f (s ∷ l) = chained (f ++ step_bytes (length f) s) l

unfoldable pub file : List Step → List ℕ
file l = chained [] l

-- ---- rules

-- 3: document 01's limits, and coords has a field of two bytes
unfoldable pub fair : ℕ → ℕ → Bool
fair n c = small n c && leb c 65535

-- the first rule that a step of n rows, c coordinates and so many values breaks; none where it keeps them all
unfoldable pub ruled : ℕ → ℕ → ℕ → Option Refusal
ruled n c count = cond (not (fair n c)) (Some FileLimits) (cond (not (eqb count (wanted n c))) (Some FileCount) None)

unfoldable pub step_refusal : Step → Option Refusal
step_refusal s = ruled s.rows s.coords (length s.values)

-- that of the oldest step that breaks a rule
unfoldable pub steps_refusal : List Step → Option Refusal
steps_refusal [] = None
steps_refusal (s ∷ l) = option_or (step_refusal s) (steps_refusal l)

-- 15: 1 to 40 steps
abbrev pub several : ℕ → Bool
several steps = leb 1 steps && leb steps 40

-- 15 before all steps, each step's 3 and 4, then 10 where the output has no room for the file; none where none applies
unfoldable pub refusal : List Step → ℕ → Option Refusal
refusal l room =
    cond (not (several (length l))) (Some Steps)
    (option_or (steps_refusal l) (cond (leb (length (file l)) room) None (Some Short)))
