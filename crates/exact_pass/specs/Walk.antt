-- The ray's rows and their farthest in one walk, and the claim that it is the two walks of Ray.antt. Definitions only.
use Rattle.std.specs.Prelude.{ℕ, ◌≡◌, Bool, not, cond, ◌||◌, List, [], ◌∷◌, ◌++◌, get_or, length, Float}
use Rattle.std.specs.Float.Ieee.{le}
use Rattle.loops.specs.Loops.{turns}
use Rattle.floats.specs.Ops.{at, 0ᶠ}
use Rattle.floats.specs.Helpers.{larger}
use Rattle.box_rows.specs.Rows as box
use Rattle.exact_pass.specs.Ray as rays

-- the rows that count and the farthest of them, 0 where there is no row; none where a row that counts may not grow
pub data Walked : Type 0 where
  none : Walked
  these : List ℕ → Float → Walked

-- how far row a moves along y, over its scale
abbrev pub size_at : List Float → List Float → ℕ → Float
size_at scale y a = box.size_of (at y a) (at scale a)

-- a row does not count where it is Idle or moves next to nothing
unfoldable pub dropped : Bool → Float → Float → Bool
dropped acting size least = not acting || le size least

-- one row more, which moves by size: a row that is dropped changes neither the rows nor their farthest
unfoldable pub walk : Bool → Bool → ℕ → Float → Walked → Walked
walk drop grow a size none = none
walk drop grow a size (these l far) = cond drop (these l far) (cond grow (these (l ++ (a ∷ [])) (larger far size)) none)

unfoldable pub walk_row : List Float → List Float → List Float → List ℕ → List Float → Float → ℕ → Walked → Walked
walk_row lo hi scale st y least a c =
    walk (dropped (box.acts st a) (size_at scale y a) least) (box.grows (at y a) (at lo a) (at hi a)) a
    (size_at scale y a) c

-- of the first n rows
unfoldable pub walked : List Float → List Float → List Float → List ℕ → List Float → Float → ℕ → Walked
walked lo hi scale st y least n = turns n (these [] 0ᶠ) (walk_row lo hi scale st y least)

-- the rows of the first n that count
unfoldable pub collected : List Float → List Float → List Float → List ℕ → List Float → Float → ℕ → rays.Collected
collected lo hi scale st y least n = turns n (rays.these []) (rays.collect lo hi scale st y least)

-- the farthest of the first k rows of l
unfoldable pub farthest : List Float → List Float → List ℕ → ℕ → Float
farthest scale y l k = turns k 0ᶠ λ i worst. larger worst (size_at scale y (get_or l i 0))

-- what walking over rows that were collected before gives
unfoldable pub walked_after : List Float → List Float → rays.Collected → Walked
walked_after scale y rays.none = none
walked_after scale y (rays.these l) = these l (farthest scale y l (length l))

-- after any number of rows, the one walk has what collecting that many and then walking over what was collected gives
abbrev pub OneWalk : Type 0
OneWalk =
    (lo hi scale : List Float) (st : List ℕ) (y : List Float) (least : Float) (k : ℕ)
    → walked lo hi scale st y least k ≡ walked_after scale y (collected lo hi scale st y least k)
