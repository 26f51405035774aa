-- The steps of a system of one row and one column, where a, b and x have one entry each.
use Prim.Native.Nat.{ℕ, zero, suc, ◌*◌}
use mathlib.Core.Path.{◌≡◌, refl, ◌∙◌}
use mathlib.Core.Bool.{Bool, true, false, cond}
use mathlib.Core.List.{List, [], ◌∷◌}
use native.Mathlib.Nat.{zero-mul}
use native.Mathlib.Omega.{arith}
use lib.ListN.{length, set}
use lib.Ieee.{Float, lt, eq}
use Rattle.loops.specs.Loops.{turns, between, downward, tab}
use Rattle.loops.specs.Updates.{updated}
use Rattle.floats.specs.Ops.{◌⊕◌, ◌⊖◌, ◌⊗◌, ◌⊘◌, at, 0ᶠ, 2ᶠ, 1e-11}
use Rattle.floats.specs.Helpers.{abs}
use Rattle.floats.specs.Sums.{gathered}
use Rattle.least_norm.specs.Reflector as reflector
use Rattle.least_norm.specs.LeastNorm as least

-- what is left of b's entry y under the reflector of the entry alpha, which leaves beta
abbrev left : Float → Float → Float → Float
left alpha beta y = y ⊖ (2ᶠ ⊗ ((alpha ⊖ beta) ⊗ y) ⊘ ((alpha ⊖ beta) ⊗ (alpha ⊖ beta) ⊕ 0ᶠ)) ⊗ (alpha ⊖ beta)

reduced-one : (alpha y : Float) → least.reduced 1 1 (alpha ∷ []) (y ∷ []) 1 ≡
    cond (eq (0ᶠ ⊕ alpha ⊗ alpha) 0ᶠ) (least.ended 0 (least.factors (alpha ∷ []) (y ∷ []) (0 ∷ [])))
    (least.going (least.factors (reflector.beta alpha 0ᶠ ∷ []) (left alpha (reflector.beta alpha 0ᶠ) y ∷ []) (0 ∷ [])))
unfolding
    least.reduced least.reduce least.pivot least.norm2 least.brought least.eliminated reflector.reflect turns between tab updated gathered
reduced-one alpha y = refl

-- the solution after the reduction of k columns, or fewer
abbrev ranked : ℕ → ℕ → least.Reduced → least.Solution
ranked n k r = least.solved n (least.left r) (least.leading n (least.left r).a (least.columns k r))

ranked-ended : (alpha y : Float)
    → ranked 1 1 (least.ended 0 (least.factors (alpha ∷ []) (y ∷ []) (0 ∷ [])))
    ≡ least.solution 0 (alpha ∷ []) (y ∷ []) (0ᶠ ∷ [])
unfolding least.solved least.leading turns
ranked-ended alpha y = refl

-- the one entry of R leads, or the rank is 0
solved-one : (beta y : Float) (b : Bool) → least.solved 1 (least.factors (beta ∷ []) (y ∷ []) (0 ∷ [])) (cond b 1 0) ≡
    cond b (least.solution 1 (beta ∷ []) (y ∷ []) (y ⊘ beta ∷ [])) (least.solution 0 (beta ∷ []) (y ∷ []) (0ᶠ ∷ []))
unfolding least.solved least.cleared least.substituted least.turned least.unpermuted turns between downward gathered
solved-one beta y true = refl
solved-one beta y false = refl

ranked-going : (beta y : Float) → ranked 1 1 (least.going (least.factors (beta ∷ []) (y ∷ []) (0 ∷ []))) ≡
    cond (lt (1e-11 ⊗ abs beta) (abs beta)) (least.solution 1 (beta ∷ []) (y ∷ []) (y ⊘ beta ∷ [])) (least.solution 0 (beta ∷ []) (y ∷ []) (0ᶠ ∷ []))
unfolding least.leading turns
ranked-going beta y = solved-one beta y (lt (1e-11 ⊗ abs beta) (abs beta))

-- ---- lists of one entry

single : (l : List Float) → length l ≡ 1 → l ≡ at l 0 ∷ []
single [] h = absurd (omega arith)
single (v ∷ []) h = refl
single (v ∷ w ∷ l) h = absurd (omega arith)

single-set : (l : List Float) (v : Float) → length l ≡ 1 → set l 0 v ≡ v ∷ []
single-set [] v h = absurd (omega arith)
single-set (u ∷ []) v h = refl
single-set (u ∷ w ∷ l) v h = absurd (omega arith)

-- ---- the three ways to end

module _ (a b x : List Float) (one-a : length a ≡ 1) (one_b : length b ≡ 1) (one-x : length x ≡ 1) where
  whole : least.least_norm 1 1 a b ≡ ranked 1 1 (least.reduced 1 1 (at a 0 ∷ []) (at b 0 ∷ []) 1)
  unfolding least.least_norm
  whole = rw (single a one-a, single b one_b)

  pub none_left : eq (0ᶠ ⊕ at a 0 ⊗ at a 0) 0ᶠ ≡ true → least.solution 0 a b (set x 0 0ᶠ) ≡ least.least_norm 1 1 a b
  none_left h =
      rw (
        single-set x 0ᶠ one-x,
        whole,
        reduced-one (at a 0) (at b 0),
        h,
        ranked-ended (at a 0) (at b 0),
        ← single a one-a,
        ← single b one_b,
      )

  -- the entry that the reflector leaves, its size and b's
  module _ (beta size : Float) (some : eq (0ᶠ ⊕ at a 0 ⊗ at a 0) 0ᶠ ≡ false) (beta-is : beta ≡ reflector.beta (at a 0) 0ᶠ) (size_is : size ≡ abs beta) where
    going-left : least.least_norm 1 1 a b
        ≡ cond (lt (1e-11 ⊗ size) size)
        (least.solution 1 (beta ∷ []) (left (at a 0) beta (at b 0) ∷ []) (left (at a 0) beta (at b 0) ⊘ beta ∷ []))
        (least.solution 0 (beta ∷ []) (left (at a 0) beta (at b 0) ∷ []) (0ᶠ ∷ []))
    going-left = whole ∙ rw (reduced-one (at a 0) (at b 0), some, ← beta-is, size_is) (ranked-going beta (left (at a 0) beta (at b 0)))

    pub full-left : lt (1e-11 ⊗ size) size ≡ true
        → least.solution 1 (set a 0 beta) (set b 0 (left (at a 0) beta (at b 0)))
        (set (set x 0 0ᶠ) 0 (at (set b 0 (left (at a 0) beta (at b 0))) 0 ⊘ beta))
        ≡ least.least_norm 1 1 a b
    full-left h = rw (going-left, h, single-set a beta one-a, single-set b (left (at a 0) beta (at b 0)) one_b, single-set x 0ᶠ one-x)

    pub rank_left : lt (1e-11 ⊗ size) size ≡ false
        → least.solution 0 (set a 0 beta) (set b 0 (left (at a 0) beta (at b 0))) (set x 0 0ᶠ) ≡ least.least_norm 1 1 a b
    rank_left h = rw (going-left, h, single-set a beta one-a, single-set b (left (at a 0) beta (at b 0)) one_b, single-set x 0ᶠ one-x)

-- ---- a matrix of one entry is one row and one column

pub one_by_one : (m n l : ℕ) → l ≡ m * n → l ≡ 1 → (m ≡ 1) × (n ≡ 1)
one_by_one zero n l e h = absurd (omega (arith, zero-mul n))
one_by_one (suc m) zero l e h = absurd (omega arith)
one_by_one (suc m) (suc n) l e h = (omega arith, omega arith)

pub whole-one : (m n : ℕ) (a b : List Float) (s : least.Solution) → length a ≡ m * n → length a ≡ 1
    → s ≡ least.least_norm 1 1 a b → s ≡ least.least_norm m n a b
whole-one m n a b s e h k = let o = one_by_one m n (length a) e h in rw (o.0, o.1) k
