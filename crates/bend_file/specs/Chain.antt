-- Document 02's chained bend file: the rules of one step, the walk from step to step, and the steps that a file holds.
-- Definitions only. A step is the bytes from the linked offset to `end`, where its trailer ends; the fields and the
-- rules 2, 3 and 4's count rule are those of Trailer.antt.
use Rattle.std.specs.Prelude.{ℕ, ◌+◌, ◌-◌, ◌*◌, ◌≡◌, Bool, not, cond, ◌&&◌, List, [], ◌∷◌, ◌++◌, map, leb, eqb, length, replicate, slice_get, Option, Some, None, option_map, Result, Ok, Err}
use Rattle.std.specs.Option.{option_or}
use Rattle.loops.specs.Loops.{turns}
use Rattle.refusals.specs.declared.Refusal.{Refusal}
use Rattle.refusals.specs.declared.Refusal.TheVariants.{FileSize, FileCount, Short, Link, Steps}
use Rattle.refusals.specs.Calls.{result_map}
use Rattle.bend_file.specs.Little.{u32, over}
use Rattle.bend_file.specs.Trailer.{start, rows, coords, count, trailer_refusal}
use Rattle.bend_file.specs.Read.{Problem, problem, shape, Lent, with_problem}
use Rattle.bend_file.specs.declared.Shape.{Shape}
use Rattle.bend_file.specs.declared.chain.Chain.{Chain}

-- ---- the link

-- the trailer, the numbers and the four bytes before them
abbrev pub span : List ℕ → ℕ → ℕ
span f end = 20 + 8 * count f end

-- the link's own offset: four bytes before the numbers, whose place is known from `end` and the count
unfoldable pub link_at : List ℕ → ℕ → ℕ
link_at f end = end - span f end

-- the offset at which the previous step's trailer ends; 0 in the first step
unfoldable pub link : List ℕ → ℕ → ℕ
link f end = u32 f (link_at f end)

-- ---- the rules of a step

-- 1: the step ends at 16 or later, and 1 MiB at most
abbrev pub inside : ℕ → Bool
inside end = leb 16 end && leb end 1048576

-- 14: four bytes stand before the numbers
unfoldable pub preceded : List ℕ → ℕ → Bool
preceded f end = leb (span f end) end

-- 14: the link is not above its own offset
unfoldable pub backward : List ℕ → ℕ → Bool
backward f end = leb (link f end) (link_at f end)

-- 4: the length rule, counted from the linked offset
unfoldable pub reaching_from : List ℕ → ℕ → Bool
reaching_from f end = eqb (link f end + start f end + 8 * count f end + 16) end

-- the first of the link's rules that is broken; none where all are kept
unfoldable pub link_refusal : List ℕ → ℕ → Option Refusal
link_refusal f end =
    cond (not (preceded f end)) (Some Link)
    (cond (not (backward f end)) (Some Link)
    (cond (not (reaching_from f end)) (Some FileCount) None))

-- the first of all rules that the step breaks
unfoldable pub step_refusal : List ℕ → ℕ → Option Refusal
step_refusal f end = cond (not (inside end)) (Some FileSize) (option_or (trailer_refusal f end) (link_refusal f end))

-- ---- the walk, newest step first

-- where the next step ends, after those that end at `steps`; or what the file gets: where its steps end, or a refusal.
-- These are the states of a walk, and no answer: a Result whose error goes on with the walk would be no plainer
pub data Walk : Type 0 where
  at : ℕ → List ℕ → Walk
  ended : Result (List ℕ) Refusal → Walk

-- past a step that keeps its rules: a link of 0 is the first step's
unfoldable pub follow : ℕ → List ℕ → Walk
follow l steps = cond (eqb l 0) (ended (Ok steps)) (at l steps)

-- a step's refusal is the whole file's
unfoldable pub passed : Option Refusal → Walk → Walk
passed (Some r) w = ended (Err r)
passed None w = w

unfoldable pub step : List ℕ → ℕ → List ℕ → Walk
step f end steps = passed (step_refusal f end) (follow (link f end) (steps ++ (end ∷ [])))

unfoldable pub turn : List ℕ → ℕ → Walk → Walk
turn f i (at end steps) = step f end steps
turn f i (ended v) = ended v

-- after i steps; the newest ends with the file
unfoldable pub walked : List ℕ → ℕ → Walk
walked f i = turns i (at (length f) []) (turn f)

-- 15: a 41st step, before anything else of it
unfoldable pub settled : Walk → Result (List ℕ) Refusal
settled (at end steps) = Err Steps
settled (ended v) = v

-- where the steps of a file end, newest first
unfoldable pub ends : List ℕ → Result (List ℕ) Refusal
ends f = settled (walked f 40)

-- ---- the steps

-- the problem of the step that ends at `end`: start counts from the linked offset
unfoldable pub step_problem : List ℕ → ℕ → Problem
step_problem f end = problem f (link f end + start f end) (rows f end) (coords f end)

-- the steps of a file, newest first
unfoldable pub pull : List ℕ → Result (List Problem) Refusal
pull f = result_map (map (step_problem f)) (ends f)

-- step number k, counted from the newest, which is 0
unfoldable pub picked : Result (List Problem) Refusal → ℕ → Result (Option Problem) Refusal
picked r k = result_map (λ l. slice_get l k) r

-- ---- what the calls give back

abbrev pub chain_of : List ℕ → Chain
chain_of s = record { count = length s; ends = over s (replicate 40 0) }

-- `steps`: how many there are and where each ends, with 0 past them
abbrev pub told : Result (List ℕ) Refusal → Result Chain Refusal
told r = result_map chain_of r

-- 10: the buffers' lengths are those of the largest step, or more
abbrev pub roomy : Lent → Bool
roomy b =
    leb 1024 (length b.w) && leb 32 (length b.u_free) && leb 32 (length b.lo) && leb 32 (length b.hi)
    && leb 32 (length b.scale) && leb 32 (length b.nu) && leb 2048 (length b.motion)

-- `read_step`: 10 before anything of the file
unfoldable pub step_answer : List ℕ → ℕ → Lent → Result (Option Problem) Refusal
step_answer f k b = cond (roomy b) (picked (pull f) k) (Err Short)

abbrev pub step_reading : Result (Option Problem) Refusal → Result (Option Shape) Refusal
step_reading r = result_map (option_map shape) r

-- the buffers afterwards: unchanged unless there is such a step
abbrev pub step_filled : Result (Option Problem) Refusal → Lent → Lent
step_filled (Err r) b = b
step_filled (Ok None) b = b
step_filled (Ok (Some p)) b = with_problem p b

pub record ReadsStep (f : List ℕ) (k : ℕ) (r : Result (Option Shape) Refusal) (before after : Lent) : Type 0 where
  pub result : r ≡ step_reading (step_answer f k before)
  pub buffers : after ≡ step_filled (step_answer f k before) before
