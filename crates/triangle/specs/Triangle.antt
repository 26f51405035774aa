-- A symmetric matrix that comes as its lower triangle by rows, and its solve: the full solve of the mirrored matrix. Definitions only.
use Rattle.std.specs.Prelude.{ℕ, ◌+◌, ◌*◌, ◌/◌, ◌≤◌, ◌<◌, ◌≡◌, Bool, not, cond, ◌&&◌, ◌||◌, List, [], ◌∷◌, ◌++◌, leb, ltb, eqb, length, Float, Option, Some}
use Rattle.loops.specs.Loops.{turns, tab}
use Rattle.floats.specs.Ops.{at}
use Rattle.box_rows.specs.Rows as box
use Rattle.boxed.specs.Solve.{Watch, Result, first, refusal, reply, SWEEP_CAP}
use Rattle.refusals.specs.declared.Refusal.{Refusal}
use Rattle.refusals.specs.declared.Refusal.TheVariants as by

-- ---- the mirrored matrix

-- Where row i of a triangle begins: the rows before it have 1, 2, .. i values. At n it is the length of a triangle of n rows.
unfoldable pub row_start : ℕ → ℕ
row_start i = i * (i + 1) / 2

-- where in the triangle the matrix's value in row i and column j stands: there, or above the diagonal in row j and column i
unfoldable pub place : ℕ → ℕ → ℕ
place i j = cond (leb j i) (row_start i + j) (row_start j + i)

abbrev pub mirror : List Float → ℕ → ℕ → Float
mirror t i j = at t (place i j)

unfoldable pub mirror_row : List Float → ℕ → ℕ → List Float
mirror_row t n i = tab (mirror t i) n

-- the first k rows of n values
unfoldable pub rows_mirrored : List Float → ℕ → ℕ → List Float
rows_mirrored t n k = turns k [] λ i w. w ++ mirror_row t n i

-- the matrix: n rows of n
unfoldable pub mirrored : ℕ → List Float → List Float
mirrored n t = rows_mirrored t n n

-- The triangle's value in row i and column j stands in the matrix at (i, j) and at (j, i). Of every n, every triangle and every place; the theorem is `mirrors` in proofs/Mirrored.antt.
pub record Mirrors (n : ℕ) (t : List Float) : Type 0 where
  pub square : length (mirrored n t) ≡ n * n
  pub below : (i j : ℕ) → i < n → j ≤ i → at (mirrored n t) (i * n + j) ≡ at t (row_start i + j)
  pub above : (i j : ℕ) → i < n → j ≤ i → at (mirrored n t) (j * n + i) ≡ at t (row_start i + j)

-- ---- the solve

-- the problem with the mirrored matrix
abbrev pub problem : List Float → List Float → List Float → List Float → List Float → box.Problem
problem t u_free lo hi scale = box.problem (mirrored (length u_free) t) u_free lo hi scale

-- a call that 5 does not refuse
unfoldable pub within_limits : ℕ → ℕ → Bool
within_limits n motion = not (ltb 32 n || ltb 2048 motion)

-- 16: such a call with a triangle of another length, k
unfoldable pub wrong_length : ℕ → ℕ → ℕ → Bool
wrong_length k n motion = within_limits n motion && not (eqb k (row_start n))

-- what is tested before the full solve's own rules: 5, and then 16
abbrev pub measured : ℕ → ℕ → ℕ → Option Refusal
measured k n motion = first ((ltb 32 n || ltb 2048 motion, by.TooLarge) ∷ (not (eqb k (row_start n)), by.Triangle) ∷ [])

-- 16 in the place of 6, so the order is 5, 16, 7, 8, 9, 10: the mirrored matrix has n * n values, and 6 does not occur
unfoldable pub triangle_refusal : ℕ → box.Problem → List Float → List Float → List ℕ → List ℕ → ℕ → Option Refusal
triangle_refusal k p motion nu st l room = cond (wrong_length k (box.size p) (length motion)) (Some by.Triangle) (refusal p motion nu st l room)

-- every answer but 16 is `solve_reply` of the mirrored matrix: `as-mirrored` in proofs/Mirrored.antt
unfoldable pub triangle_reply : ℕ → box.Problem → Watch → List Float → List ℕ → List ℕ → ℕ → Result
triangle_reply k p m nu st l room = reply SWEEP_CAP p m nu st l (triangle_refusal k p m.motion nu st l room)

-- ---- both forms of a call's matrix, for the tally

-- W as n rows of n, or as a triangle of so many values
pub data Sent : Type 0 where
  whole : Sent
  triangle : ℕ → Sent

unfoldable pub refusal_of : Sent → box.Problem → List Float → List Float → List ℕ → List ℕ → ℕ → Option Refusal
refusal_of whole p motion nu st l room = refusal p motion nu st l room
refusal_of (triangle k) p motion nu st l room = triangle_refusal k p motion nu st l room
