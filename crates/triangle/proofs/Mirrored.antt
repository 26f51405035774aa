-- The mirrored matrix, over the index: row by row, each value of the triangle in its two places; and the solve of a triangle of the right length as the full solve of that matrix.
use Prim.Native.Nat.{ℕ, zero, suc, ◌+◌, ◌*◌, ◌≤◌, ◌<◌}
use mathlib.Core.Path.{◌≡◌, refl, sym, ap, ◌∙◌}
use mathlib.Core.Bool.{Bool, true, false, not, cond, ◌&&◌}
use mathlib.Core.List.{List}
use mathlib.Core.Logic.{⊎_elim}
use native.Mathlib.Omega.{arith}
use native.Mathlib.Numerals.{add-one}
use native.Mathlib.Nat.{not-suc-le-zero, le_of_suc-le-suc, add-mul-div_left, eq-or-lt_of_le}
use lib.Dec.{leb}
use lib.ListN.{length}
use lib.Ieee.{Float, nan}
use borrow.Author.Tests.{le-leb, lt-leb, leb-true, leb-false, eq-eqb}
use Rattle.std.specs.Prelude.{Option, Some, None}
use Rattle.refusals.specs.declared.Refusal.{Refusal}
use Rattle.refusals.specs.declared.Refusal.TheVariants as by
use Rattle.loops.proofs.Parts.{joined_length, joined_at}
use Rattle.loops.proofs.Fill.{tab-length, tab-at}
use Rattle.floats.specs.Ops.{at}
use Rattle.box_rows.specs.Rows as box
use Rattle.boxed.specs.Solve.{Watch, refusal, solve_reply}
use Rattle.triangle.specs.Triangle.{row_start, place, mirror, mirror_row, rows_mirrored, mirrored, Mirrors, within_limits, wrong_length, triangle_refusal, triangle_reply, Sent, whole, triangle, refusal_of}

-- ---- where rows begin

pub row-start-suc : (i : ℕ) → row_start (suc i) ≡ row_start i + suc i
unfolding row_start
row-start-suc i =
    let e : suc i * (suc i + 1) ≡ i * (i + 1) + 2 * suc i = omega arith in
    rw e (add-mul-div_left (i * (i + 1)) (suc i) {y = 2} (omega arith))

-- a row ends where the next one begins, and no row past the triangle's end
pub row_fits : (n i : ℕ) → i < n → row_start i + suc i ≤ row_start n
row_fits zero i h = absurd (not-suc-le-zero h)
row_fits (suc n) i h =
    ⊎_elim
    (λ (e : i ≡ n). rw (e, row-start-suc n) (omega arith))
    (λ (l : i < n). omega (arith, row_fits n i l, row-start-suc n))
    (eq-or-lt_of_le (le_of_suc-le-suc h))

-- ---- the mirrored matrix

pub mirror-row-length : (t : List Float) (n i : ℕ) → length (mirror_row t n i) ≡ n
unfolding mirror_row
mirror-row-length t n i = tab-length (mirror t i) n

-- every row and column
pub mirrored-at : (n : ℕ) (t : List Float) (i j : ℕ) → i < n → j < n → at (mirrored n t) (i * n + j) ≡ mirror t i j
unfolding mirrored rows_mirrored mirror_row
mirrored-at n t i j h l = joined_at (mirror_row t n) n (mirror-row-length t n) n i j nan h l ∙ tab-at (mirror t i) n j nan l

place-below : (i j : ℕ) → j ≤ i → place i j ≡ row_start i + j
unfolding place
place-below i j h = rw (le-leb j i h)

place-above : (i j : ℕ) → j ≤ i → place j i ≡ row_start i + j
unfolding place
place-above i j h =
    ⊎_elim
    (λ (e : j ≡ i). rw (e, le-leb i i (omega arith)))
    (λ (l : j < i). rw (lt-leb i j l))
    (eq-or-lt_of_le h)

-- the place of the first column, and of the next one
pub place-start : (i : ℕ) → row_start i ≡ place i 0
place-start i = sym (place-below i 0 (omega arith) ∙ omega arith)

pub next-below : (i j : ℕ) → j < i → place i j + 1 ≡ place i (j + 1)
next-below i j h = rw (place-below i j (omega arith), place-below i (j + 1) (omega arith)) (omega arith)

pub next-above : (i j : ℕ) → i ≤ j → place i j + j + 1 ≡ place i (j + 1)
next-above i j h = rw (place-above j i h, place-above (j + 1) i (omega arith), add-one j, row-start-suc j) (omega arith)

-- every place is within the triangle
pub place-fits : (n i j : ℕ) → i < n → j < n → place i j < row_start n
place-fits n i j h l = go (leb j i) refl
  where
    go : (b : Bool) → leb j i ≡ b → place i j < row_start n
    go true e = let q = leb-true j i e in rw (place-below i j q) (omega (arith, row_fits n i h))
    go false e = let q = leb-false j i e in rw (place-above j i (omega arith)) (omega (arith, row_fits n j l))

pub place-within : (n i j p l : ℕ) → l ≡ row_start n → i < n → j < n → p ≡ place i j → p < l
place-within n i j p l e h k q = rw (e, q) (place-fits n i j h k)

-- 32 rows have 528 values
pub few : (i : ℕ) → i ≤ 32 → row_start i ≤ 528
few i h =
    ⊎_elim
    (λ (e : i ≡ 32). rw e (unfold row_start in omega arith))
    (λ (l : i < 32). let q : row_start 32 ≡ 528 = unfold row_start in refl in omega (arith, row_fits 32 i l, q))
    (eq-or-lt_of_le h)

pub place-few : (i j : ℕ) → i < 32 → j < 32 → place i j < 528
place-few i j h l = omega (arith, place-fits 32 i j h l, few 32 (omega arith))

pub mirrors : (n : ℕ) (t : List Float) → Mirrors n t
unfolding mirrored rows_mirrored
mirrors n t =
    record {
      square = joined_length (mirror_row t n) n (mirror-row-length t n) n;
      below = λ i j h l. mirrored-at n t i j h (omega arith) ∙ ap (at t) (place-below i j l);
      above = λ i j h l. mirrored-at n t j i (omega arith) h ∙ ap (at t) (place-above i j l);
    }

-- ---- a triangle of the right length is solved as its mirrored matrix

pub right-length : (k n motion : ℕ) → k ≡ row_start n → wrong_length k n motion ≡ false
unfolding wrong_length
right-length k n motion e = rw (eq-eqb k (row_start n) e) (never (within_limits n motion))
  where
    never : (b : Bool) → b && not true ≡ false
    never true = refl
    never false = refl

pub as-mirrored : (p : box.Problem) (m : Watch) (nu : List Float) (st l : List ℕ) (room k : ℕ) → k ≡ row_start (box.size p)
    → triangle_reply k p m nu st l room ≡ solve_reply p m nu st l room
unfolding triangle_reply triangle_refusal solve_reply
as-mirrored p m nu st l room k e = rw (right-length k (box.size p) (length m.motion) e)

-- a call of either form that is not refused is one that the full solve does not refuse
pub not-refused : (s : Sent) (p : box.Problem) (motion nu : List Float) (st l : List ℕ) (room : ℕ) → refusal_of s p motion nu st l room ≡ None → refusal p motion nu st l room ≡ None
unfolding refusal_of triangle_refusal
not-refused whole p motion nu st l room e = e
not-refused (triangle k) p motion nu st l room e = go (wrong_length k (box.size p) (length motion)) (refusal p motion nu st l room) e
  where
    go : (b : Bool) (r : Option Refusal) → cond b (Some by.Triangle) r ≡ None → r ≡ None
    go true r h = cc
    go false r h = h
