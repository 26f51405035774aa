-- The least-norm solution of A x = b (dense.rs), by its steps. Definitions only. a is m rows of n entries, row by row:
-- row i and column c stand at i * n + c.
use Rattle.std.specs.Prelude.{ℕ, zero, suc, ◌+◌, ◌*◌, min, cond, ◌&&◌, List, ltb, eqb, get_or, set, replicate, Float}
use Rattle.std.specs.Float.{nan}
use Rattle.std.specs.Float.Ieee.{lt, eq}
use Rattle.loops.specs.Loops.{turns, between, downward, tab, swap}
use Rattle.loops.specs.Updates.{updated}
use Rattle.floats.specs.Ops.{◌⊕◌, ◌⊖◌, ◌⊗◌, ◌⊘◌, at, 0ᶠ, 1e-11}
use Rattle.floats.specs.Helpers.{abs}
use Rattle.floats.specs.Sums.{sum, difference}
use Rattle.least_norm.specs.Reflector.{beta, reflect}
use Rattle.least_norm.specs.declared.Pivot.{Pivot}

-- ---- A P = Q R, Q applied to b as it is built

-- the squared norm of column c from row `from` up to row m
unfoldable pub norm2 : List Float → ℕ → ℕ → ℕ → ℕ → Float
norm2 a n c from m = sum 0ᶠ (λ row. at a (row * n + c) ⊗ at a (row * n + c)) from m

-- the column of greatest remaining norm, from column j on; the first of equals
unfoldable pub pivot : List Float → ℕ → ℕ → ℕ → Pivot
pivot a m n j =
    between (suc j) n (record { col = j; norm = norm2 a n j j m }) λ c best.
    let norm = norm2 a n c j m in
    cond (lt best.norm norm) (record { col = c; norm = norm }) best

-- what the steps work on: A, b and the columns of A that stand at each place
pub record Factors : Type 0 where
  pub a : List Float
  pub b : List Float
  pub perm : List ℕ

abbrev pub factors : List Float → List Float → List ℕ → Factors
factors a b perm = record { a = a; b = b; perm = perm }

-- column c brought to place j
unfoldable pub brought : ℕ → ℕ → ℕ → ℕ → Factors → Factors
brought m n j c s =
    let a = turns m s.a λ row a. swap nan a (row * n + j) (row * n + c) in
    cond (eqb c j) s (factors a s.b (swap 0 s.perm j c))

-- the reflector that leaves column j only an entry in row j, applied to the columns after it and to b: v has v0 in row
-- j, and what stands in column j below
unfoldable pub eliminated : ℕ → ℕ → ℕ → Factors → Factors
eliminated m n j s =
    let alpha = at s.a (j * n + j) in
    let sigma = norm2 s.a n j (suc j) m in
    let v0 = alpha ⊖ beta alpha sigma in
    let v : ℕ → Float = λ row. at s.a (row * n + j) in
    let vtv = v0 ⊗ v0 ⊕ sigma in
    let a = between (suc j) n s.a λ c a. reflect (j * n + c) (λ row. row * n + c) v0 v vtv (suc j) m a in
    let b = reflect j (λ row. row) v0 v vtv (suc j) m s.b in
    factors (updated nan (λ row. row * n + j) (λ row x. 0ᶠ) (suc j) m (set a (j * n + j) (beta alpha sigma))) b s.perm

-- still reducing; or ended, as every column from so many on is zero
pub data Reduced : Type 0 where
  going : Factors → Reduced
  ended : ℕ → Factors → Reduced

unfoldable pub reduce : ℕ → ℕ → ℕ → Reduced → Reduced
reduce m n j (ended r s) = ended r s
reduce m n j (going s) =
    let p = pivot s.a m n j in
    let u = brought m n j p.col s in
    cond (eq p.norm 0ᶠ) (ended j u) (going (eliminated m n j u))

-- after j columns
unfoldable pub reduced : ℕ → ℕ → List Float → List Float → ℕ → Reduced
reduced m n a b j = turns j (going (factors a b (tab (λ i. i) n))) (reduce m n)

-- how many columns were reduced, of k, and what is left
abbrev pub columns : ℕ → Reduced → ℕ
columns k (going s) = k
columns k (ended r s) = r

abbrev pub left : Reduced → Factors
left (going s) = s
left (ended r s) = s

-- ---- the rank: leading diagonal entries above 1e-11 of the first. Entry i counts where all before it do.

unfoldable pub leading : ℕ → List Float → ℕ → ℕ
leading n a i = turns i 0 λ i r. cond (eqb r i && lt (1e-11 ⊗ abs (at a 0)) (abs (at a (i * n + i)))) (suc r) r

-- ---- [R₁₁ R₁₂] Z = [T 0], from the last row of the trapezoid up. Row i of `right` is reflector i: u0 in column i, and
-- what is cleared past the rank.

pub record Trapezoid : Type 0 where
  pub a : List Float
  pub right : List Float

abbrev pub trapezoid : List Float → List Float → Trapezoid
trapezoid a right = record { a = a; right = right }

-- rows from the last down to i
unfoldable pub cleared : ℕ → ℕ → List Float → ℕ → Trapezoid
cleared n rank a i =
    downward rank i (trapezoid a (replicate (rank * n) 0ᶠ)) λ i s.
    let alpha = at s.a (i * n + i) in
    let sigma = sum 0ᶠ (λ c. at s.a (i * n + c) ⊗ at s.a (i * n + c)) rank n in
    let u0 = alpha ⊖ beta alpha sigma in
    let right = updated nan (λ c. i * n + c) (λ c x. at s.a (i * n + c)) rank n (set s.right (i * n + i) u0) in
    let u : ℕ → Float = λ c. at right (i * n + c) in
    let utu = u0 ⊗ u0 ⊕ sigma in
    let a = turns (suc i) s.a λ row a. reflect (row * n + i) (λ c. row * n + c) u0 u utu rank n a in
    cond (eq sigma 0ᶠ) s (trapezoid a right)

-- ---- T w₁ = (Qᵀ b)₁ by back substitution, w₂ = 0

unfoldable pub substituted : ℕ → ℕ → List Float → List Float → ℕ → List Float
substituted n rank a b i =
    downward rank i (replicate n 0ᶠ) λ i y.
    set y i (difference (at b i) (λ j. at a (i * n + j) ⊗ at y j) (suc i) rank ⊘ at a (i * n + i))

-- ---- x = P Z w, Z₀ applied first

unfoldable pub turned : ℕ → ℕ → List Float → List Float → ℕ → List Float
turned n rank right y i =
    turns i y λ i y.
    let u : ℕ → Float = λ c. at right (i * n + c) in
    let utu = sum (u i ⊗ u i) (λ c. u c ⊗ u c) rank n in
    cond (eq utu 0ᶠ) y (reflect i (λ c. c) (u i) u utu rank n y)

unfoldable pub unpermuted : ℕ → List ℕ → List Float → ℕ → List Float
unpermuted n perm y j = turns j (replicate n 0ᶠ) λ j x. set x (get_or perm j 0) (at y j)

-- ---- the whole

-- the rank, what is left in a and b, and the solution
pub record Solution : Type 0 where
  pub rank : ℕ
  pub a : List Float
  pub b : List Float
  pub x : List Float

abbrev pub solution : ℕ → List Float → List Float → List Float → Solution
solution rank a b x = record { rank = rank; a = a; b = b; x = x }

-- at a rank; at full rank there is nothing to clear, and no reflector to apply
unfoldable pub solved : ℕ → Factors → ℕ → Solution
solved n s zero = solution 0 s.a s.b (replicate n 0ᶠ)
solved n s (suc r) =
    let rank = suc r in
    let t = cleared n rank s.a (cond (ltb rank n) 0 rank) in
    let w = substituted n rank t.a s.b 0 in
    let y = turned n rank t.right w (cond (ltb rank n) rank 0) in
    solution rank t.a s.b (unpermuted n s.perm y n)

unfoldable pub least_norm : ℕ → ℕ → List Float → List Float → Solution
least_norm m n a b =
    let k = min m n in
    let r = reduced m n a b k in
    solved n (left r) (leading n (left r).a (columns k r))
