-- The ray test of boxed.rs: the rows along whose direction y the problem falls without end, or no row. Definitions
-- only.
use Rattle.std.specs.Prelude.{ℕ, not, cond, ◌&&◌, ◌||◌, List, [], ◌∷◌, ◌++◌, get_or, length, Float}
use Rattle.std.specs.Float.Ieee.{lt, le, eq, neg}
use Rattle.loops.specs.Loops.{turns}
use Rattle.floats.specs.Ops.{◌⊕◌, ◌⊗◌, ◌⊘◌, at, 0ᶠ, 1e6, 1e-9}
use Rattle.floats.specs.Helpers.{larger}
use Rattle.box_rows.specs.Rows as box

-- ---- the rows that count, as long as each may grow

pub data Collected : Type 0 where
  none : Collected
  these : List ℕ → Collected

-- a row that is Idle or moves next to nothing does not count; one that counts must be free to grow without end along y
unfoldable pub collect : List Float → List Float → List Float → List ℕ → List Float → Float → ℕ → Collected → Collected
collect lo hi scale st y least a none = none
collect lo hi scale st y least a (these l) =
    cond (not (box.acts st a) || le (box.size_of (at y a) (at scale a)) least) (these l)
    (cond (box.grows (at y a) (at lo a) (at hi a)) (these (l ++ (a ∷ []))) none)

-- ---- along nu + t·y the problem falls as t·lin + t²·quad / 2

-- whether it falls without end, or its least lies past a million scales (DIVERGENCE); only a linear part of 0 or
-- more rejects
unfoldable pub falling_rows : box.Problem → List Float → Collected → List ℕ
falling_rows p y none = []
falling_rows p y (these l) =
    let k = length l in
    let lin = turns k 0ᶠ λ i s. s ⊕ at p.u_free (get_or l i 0) ⊗ at y (get_or l i 0) in
    let quad =
    turns k 0ᶠ λ i q.
    let r = box.row p.w (box.size p) (get_or l i 0) in
    turns k q λ j q. q ⊕ at y (get_or l i 0) ⊗ at r (get_or l j 0) ⊗ at y (get_or l j 0) in
    let far = turns k 0ᶠ λ i worst. larger worst (box.size_of (at y (get_or l i 0)) (at p.scale (get_or l i 0))) in
    cond (not (le 0ᶠ lin) && (le quad 0ᶠ || lt 1e6 (neg lin ⊘ quad ⊗ far))) l []

-- s is the largest size of a row that acts
unfoldable pub ray : box.Problem → List ℕ → List Float → List ℕ
ray p st y =
    let n = box.size p in
    let s = turns n 0ᶠ λ a worst. cond (box.acts st a) (larger worst (box.size_of (at y a) (at p.scale a))) worst in
    cond (eq s 0ᶠ) [] (falling_rows p y (turns n (these []) (collect p.lo p.hi p.scale st y (1e-9 ⊗ s))))
