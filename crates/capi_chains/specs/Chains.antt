-- Chained bend files by plain numbers and slices: what the two calls answer and leave. Definitions only.
use Rattle.std.specs.Prelude.{ℕ, ◌≡◌, cond, ◌&&◌, List, leb, length, set, replicate, Float, Option, Some, None, Result, Ok, Err}
use Rattle.loops.specs.Loops.{fronted}
use Rattle.refusals.specs.Numbers as numbers
use Rattle.refusals.specs.declared.Refusal.{Refusal}
use Rattle.refusals.specs.declared.Refusal.TheVariants.{Short}
use Rattle.bend_file.specs.Little.{over}
use Rattle.bend_file.specs.Read.{Problem, Lent}
use Rattle.bend_file.specs.Chain.{ends, step_answer, step_reading, step_filled}
use Rattle.bend_file.specs.declared.Shape.{Shape}

-- ---- piskorlu_chain: where the steps are. 10 at once where there is no room for their number or for 40 ends

unfoldable pub told : List ℕ → List ℕ → List ℕ → Result (List ℕ) Refusal
told f steps l = cond (leb 1 (length steps) && leb 40 (length l)) (ends f) (Err Short)

abbrev pub number : Result (List ℕ) Refusal → ℕ
number (Err r) = numbers.number r
number (Ok s) = 0

abbrev pub steps_left : Result (List ℕ) Refusal → List ℕ → List ℕ
steps_left (Err r) l = l
steps_left (Ok s) l = set l 0 (length s)

-- 40 places: where the steps end, and 0 past them
abbrev pub ends_left : Result (List ℕ) Refusal → List ℕ → List ℕ
ends_left (Err r) l = l
ends_left (Ok s) l = fronted (over s (replicate 40 0)) l

pub record Told (v : Result (List ℕ) Refusal) (r : ℕ) (steps steps' l l' : List ℕ) : Type 0 where
  pub number_is : r ≡ number v
  pub steps_are : steps' ≡ steps_left v steps
  pub ends_are : l' ≡ ends_left v l

-- ---- piskorlu_chain_step: one step. 10 at once too where there is no room for its rows, coordinates and tolerance

unfoldable pub given : List ℕ → ℕ → Lent → List ℕ → List Float → Result (Option Problem) Refusal
given f k b shape tolerance = cond (leb 2 (length shape) && leb 1 (length tolerance)) (step_answer f k b) (Err Short)

-- 4,294,967,295 where there is no such step, which is no refusal
abbrev pub number_of : Result (Option Shape) Refusal → ℕ
number_of (Err r) = numbers.number r
number_of (Ok None) = 4294967295
number_of (Ok (Some x)) = 0

abbrev pub shape_of : Result (Option Shape) Refusal → List ℕ → List ℕ
shape_of (Err r) l = l
shape_of (Ok None) l = l
shape_of (Ok (Some x)) l = set (set l 0 x.rows) 1 x.coords

abbrev pub tolerance_of : Result (Option Shape) Refusal → List Float → List Float
tolerance_of (Err r) l = l
tolerance_of (Ok None) l = l
tolerance_of (Ok (Some x)) l = set l 0 x.tolerance

pub record Given (v : Result (Option Problem) Refusal) (r : ℕ) (b b' : Lent) (shape shape' : List ℕ) (tolerance tolerance' : List Float) : Type 0 where
  pub number_is : r ≡ number_of (step_reading v)
  pub buffers_are : b' ≡ step_filled v b
  pub shape_is : shape' ≡ shape_of (step_reading v) shape
  pub tolerance_is : tolerance' ≡ tolerance_of (step_reading v) tolerance
