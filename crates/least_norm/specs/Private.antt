-- Words of private contracts: lengths and places, and the parts of the steps between which the code passes. No promise of a public call
-- stands on them; those are in Promise.antt. Definitions only.
use Rattle.std.specs.Prelude.{ℕ, suc, ◌+◌, ◌*◌, ◌≤◌, ◌<◌, ◌≡◌, Bool, true, false, cond, ◌&&◌, List, [], ◌∷◌, ltb, eqb, length, get_or, set, slice_range, Float}
use Rattle.std.specs.Float.{nan}
use Rattle.std.specs.Float.Ieee.{lt, eq}
use Rattle.loops.specs.Loops.{turns, between, swap}
use Rattle.loops.specs.Updates.{updated}
use Rattle.floats.specs.Ops.{◌⊕◌, ◌⊖◌, ◌⊗◌, ◌⊘◌, at, 0ᶠ, 2ᶠ, 1e-11}
use Rattle.floats.specs.Helpers.{abs}
use Rattle.floats.specs.Sums.{sum, difference}
use Rattle.least_norm.specs.Reflector.{beta, reflect}
use Rattle.least_norm.specs.declared.Householder.{Householder}
use Rattle.least_norm.specs.declared.Pivot.{Pivot}
use Rattle.least_norm.specs.declared.Scan.{Scan}
use Rattle.least_norm.specs.declared.size.Size.{Size}
use Rattle.least_norm.specs.declared.reflect.Reflector.{Reflector}
use Rattle.least_norm.specs.LeastNorm as least

-- a holds as many rows and columns
abbrev pub Matrix : List Float → Size → Type 0
Matrix a size = length a ≡ size.m * size.n

-- r is the place of row i and column c, and what is left of the row stands after it
abbrev pub Place : ℕ → ℕ → ℕ → ℕ → ℕ → Type 0
Place m n i c r = (r ≡ i * n + c) × (r + n ≤ m * n + c)

-- row i of rows of n entries
abbrev pub row : ℕ → ℕ → List Float → List Float
row n i a = slice_range a (i * n) ((i + 1) * n)

-- x has the places from lo up to hi
abbrev pub Part : List Float → ℕ → ℕ → Type 0
Part x lo hi = (lo ≤ hi) × (hi ≤ length x)

-- s, then op with each product of the two lists' entries, from the left, as long as there are both
unfoldable pub paired : (Float → Float → Float) → Float → List Float → List Float → Float
paired op s [] y = s
paired op s (a ∷ x) [] = s
paired op s (a ∷ x) (b ∷ y) = paired op (op s (a ⊗ b)) x y

-- the reduction's lists fit: b has m entries, and perm n
abbrev pub Reducing : List Float → Size → List Float → List ℕ → Type 0
Reducing a size b perm = (length a ≡ size.m * size.n) × (length b ≡ size.m) × (length perm ≡ size.n)

-- a trapezoid at the top of a, and room for as many reflectors from the right
abbrev pub Trapezoidal : List Float → Size → List Float → Type 0
Trapezoidal a top right = (top.m * top.n ≤ length a) × (top.m ≤ top.n) × (length right ≡ top.m * top.n)

-- a trapezoid's size, a value of b for each of its rows, and room in y
abbrev pub Substituting : Size → List Float → List Float → Type 0
Substituting top b y = (top.m ≤ top.n) × (top.m ≤ length b) × (length y ≡ top.n)

abbrev pub Turning : Size → List Float → Type 0
Turning top y = (top.m ≤ top.n) × (length y ≡ top.n)

-- h is a reflector of columns of such a matrix: it has every entry from its first down
abbrev pub Down : Reflector → Size → Type 0
Down h size = (length h.v.now ≡ size.m) × (h.rest ≡ suc h.first)

-- each number below n stands at a place of perm below n
abbrev pub Onto : ℕ → List ℕ → Type 0
Onto n perm = (p : ℕ) → p < n → (j : ℕ) × (j < n) × (get_or perm j 0 ≡ p)

-- ---- parts of a reflection, as the functions have them

-- z, each place π t less f times v t, for t from lo up to hi
unfoldable pub less : (ℕ → ℕ) → Float → (ℕ → Float) → ℕ → ℕ → List Float → List Float
less π f v lo hi z = updated nan π (λ t x. x ⊖ f ⊗ v t) lo hi z

unfoldable pub factor : ℕ → (ℕ → ℕ) → Float → (ℕ → Float) → Float → ℕ → ℕ → List Float → Float
factor first π v0 v vtv lo hi z = 2ᶠ ⊗ sum (v0 ⊗ at z first) (λ t. v t ⊗ at z (π t)) lo hi ⊘ vtv

-- ---- and of the steps of LeastNorm.antt

-- the better of the pivot so far and column c, whose norm is given; the first of equals
unfoldable pub picked : ℕ → Float → Pivot → Pivot
picked c norm best = cond (lt best.norm norm) (record { col = c; norm = norm }) best

unfoldable pub better : List Float → ℕ → ℕ → ℕ → ℕ → Pivot → Pivot
better a m n j c best = picked c (least.norm2 a n c j m) best

unfoldable pub swap_columns : ℕ → ℕ → ℕ → List Float → ℕ → List Float
swap_columns n j c a m = turns m a λ row a. swap nan a (row * n + j) (row * n + c)

-- column j's reflector, which leaves beta in row j
unfoldable pub householder : List Float → ℕ → ℕ → ℕ → Householder
householder a m n j =
    let alpha = at a (j * n + j) in
    let sigma = least.norm2 a n j (suc j) m in
    let v0 = alpha ⊖ beta alpha sigma in
    record { beta = beta alpha sigma; vtv = v0 ⊗ v0 ⊕ sigma }

unfoldable pub reflect_column : ℕ → ℕ → ℕ → Float → (ℕ → Float) → Float → ℕ → List Float → List Float
reflect_column m n j v0 v vtv c a = reflect (j * n + c) (λ row. row * n + c) v0 v vtv (suc j) m a

unfoldable pub zero_below : ℕ → ℕ → List Float → ℕ → List Float
zero_below n j a m = updated nan (λ row. row * n + j) (λ row x. 0ᶠ) (suc j) m a

unfoldable pub leads : ℕ → List Float → ℕ → Bool
leads n a i = lt (1e-11 ⊗ abs (at a 0)) (abs (at a (i * n + i)))

-- r of the first i lead; one more does where all of them do
unfoldable pub counted : ℕ → List Float → ℕ → ℕ → ℕ
counted n a i r = cond (eqb r i && leads n a i) (suc r) r

unfoldable pub row_norm2 : ℕ → ℕ → ℕ → List Float → Float → Float
row_norm2 n rank i a s = sum s (λ c. at a (i * n + c) ⊗ at a (i * n + c)) rank n

unfoldable pub kept_row : ℕ → ℕ → ℕ → List Float → List Float → List Float
kept_row n rank i a right = updated nan (λ c. i * n + c) (λ c x. at a (i * n + c)) rank n right

-- row `row` of a reflected by u, which has its entry i and those from `rest` on
unfoldable pub reflect_row : List Float → ℕ → ℕ → Float → ℕ → List Float → List Float
reflect_row u i rest utu row a =
    let n = length u in reflect (row * n + i) (λ c. row * n + c) (at u i) (λ c. at u c) utu rest n a

unfoldable pub reflect_rows : List Float → ℕ → ℕ → Float → List Float → ℕ → List Float
reflect_rows u i rest utu a rows = turns rows a (reflect_row u i rest utu)

unfoldable pub clear : ℕ → ℕ → ℕ → least.Trapezoid → least.Trapezoid
clear n rank i s =
    let alpha = at s.a (i * n + i) in
    let sigma = row_norm2 n rank i s.a 0ᶠ in
    let u0 = alpha ⊖ beta alpha sigma in
    let right = kept_row n rank i s.a (set s.right (i * n + i) u0) in
    cond (eq sigma 0ᶠ) s (least.trapezoid (reflect_rows (row n i right) i rank (u0 ⊗ u0 ⊕ sigma) s.a (suc i)) right)

-- the row at which clearing ends
unfoldable pub last_cleared : ℕ → ℕ → ℕ
last_cleared n rank = cond (ltb rank n) 0 rank

unfoldable pub known : ℕ → ℕ → List Float → List Float → List Float → ℕ → Float
known n rank a b y i = difference (at b i) (λ j. at a (i * n + j) ⊗ at y j) (suc i) rank

unfoldable pub turn : ℕ → ℕ → List Float → ℕ → List Float → List Float
turn n rank right i y =
    let u0 = at right (i * n + i) in
    let utu = row_norm2 n rank i right (u0 ⊗ u0) in
    cond (eq utu 0ᶠ) y (reflect i (λ c. c) u0 (λ c. at right (i * n + c)) utu rank n y)

-- how many reflectors are applied
unfoldable pub first_turned : ℕ → ℕ → ℕ
first_turned n rank = cond (ltb rank n) rank 0

-- ---- what the functions leave

-- the pivot of the columns from c on to the next one, from a pivot before them; fewer than k columns are left
pub record Scanned (a : List Float) (m n j c : ℕ) (best : Pivot) (k : ℕ) (r : Scan) : Type 0 where
  pub pivot : r.best ≡ between c r.next best (better a m n j)
  pub before : r.best.col < r.next
  pub from : c ≤ r.next
  pub to : r.next ≤ n
  pub left : n < r.next + k

-- v is column j's reflector h, from row j to row m
pub record Reflects (a : List Float) (m n j : ℕ) (h : Householder) (v : List Float) : Type 0 where
  pub parts : h ≡ householder a m n j
  pub first : at v j ≡ at a (j * n + j) ⊖ h.beta
  pub below : (row : ℕ) → suc j ≤ row → row < m → at v row ≡ at a (row * n + j)

-- one column's work left s: it goes on, or it does not
abbrev pub standing : Bool → ℕ → least.Factors → least.Reduced
standing true j s = least.going s
standing false j s = least.ended j s

-- r columns were reduced, of k, and s is left
pub record Stopped (k : ℕ) (red : least.Reduced) (r : ℕ) (s : least.Factors) : Type 0 where
  pub columns : r ≡ least.columns k red
  pub most : r ≤ k
  pub factors : s ≡ least.left red
