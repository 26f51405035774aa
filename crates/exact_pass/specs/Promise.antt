-- What the public calls promise: the exact pass and the ray. Definitions only.
use Rattle.std.specs.Prelude.{ℕ, ◌*◌, ◌≡◌, Bool, cond, ◌&&◌, Option, Some, None, List, [], ◌∷◌, leb, eqb, length, drop, Float}
use Rattle.loops.specs.Loops.{fronted}
use Rattle.box_rows.specs.Rows as box
use Rattle.exact_pass.specs.Pass.{Trial, trial, Pass, moved, found, failed, infeasible, exact_pass}
use Rattle.exact_pass.specs.Ray.{ray}
use Rattle.exact_pass.specs.declared.Exact.{Exact}
use Rattle.exact_pass.specs.declared.Exact.TheVariants.{Found, Failed, Infeasible}

-- the lists of a problem of at most 32 rows, with a state and a value for each row, and a row list long enough
abbrev pub fits : box.Problem → ℕ → ℕ → ℕ → Bool
fits p states values rows =
    leb (box.size p) box.MAX_ROWS && eqb (length p.w) (box.size p * box.size p) && eqb (length p.lo) (box.size p)
    && eqb (length p.hi) (box.size p) && eqb (length p.scale) (box.size p) && eqb states (box.size p)
    && eqb values (box.size p) && leb (box.size p) rows

-- the workspace of a pass
abbrev pub WORKSPACE : ℕ
WORKSPACE = 1120

-- A call whose lists do not fit, or whose workspace is too short, fails and changes nothing. `workspace` is the
-- workspace's length.
unfoldable pub reply : box.Problem → List ℕ → List Float → List ℕ → ℕ → Pass
reply p st nu rows workspace =
    cond (leb WORKSPACE workspace && fits p (length st) (length nu) (length rows)) (exact_pass p st nu)
    (failed (trial nu st))

-- how many values at the workspace's front are free afterwards
abbrev pub used : box.Problem → List ℕ → List Float → List ℕ → ℕ → ℕ
used p st nu rows workspace =
    cond (leb WORKSPACE workspace && fits p (length st) (length nu) (length rows)) WORKSPACE 0

-- a pass that has only moved has failed
abbrev pub exact_of : Pass → Exact
exact_of (moved t) = Failed
exact_of (found t) = Found
exact_of (failed t) = Failed
exact_of (infeasible l t) = Infeasible (length l)

abbrev pub trial_of : Pass → Trial
trial_of (moved t) = t
trial_of (found t) = t
trial_of (failed t) = t
trial_of (infeasible l t) = t

-- the row list: the rows that no motion meets at its front
abbrev pub rows_of : Pass → List ℕ → List ℕ
rows_of (moved t) r = r
rows_of (found t) r = r
rows_of (failed t) r = r
rows_of (infeasible l t) r = fronted l r

pub record Passed (p : Pass) (r₀ : List ℕ) (e : Exact) (nu : List Float) (st r : List ℕ) : Type 0 where
  pub answer : e ≡ exact_of p
  pub tried : trial nu st ≡ trial_of p
  pub listed : r ≡ rows_of p r₀

-- of the public call
pub record Left (p : box.Problem) (st₀ : List ℕ) (nu₀ : List Float) (r₀ : List ℕ) (work₀ : List Float) (e : Exact)
    (st : List ℕ) (nu : List Float) (r : List ℕ) (work : List Float) : Type 0 where
  pub passed : Passed (reply p st₀ nu₀ r₀ (length work₀)) r₀ e nu st r
  pub workspace : drop (used p st₀ nu₀ r₀ (length work₀)) work ≡ drop (used p st₀ nu₀ r₀ (length work₀)) work₀

-- ---- the ray

unfoldable pub ray_reply : box.Problem → List ℕ → List Float → List ℕ → List ℕ
ray_reply p st y rows = cond (fits p (length st) (length y) (length rows)) (ray p st y) []

-- how many rows, if there is one
abbrev pub count_of : List ℕ → Option ℕ
count_of [] = None
count_of (a ∷ l) = Some (length (a ∷ l))

-- l by its length k and at the front of what was l₀
pub record Front (l l₀ : List ℕ) (k : Option ℕ) (l' : List ℕ) : Type 0 where
  pub count : k ≡ count_of l
  pub front : l' ≡ fronted l l₀
