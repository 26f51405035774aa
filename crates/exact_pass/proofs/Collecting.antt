-- The rows that count and their farthest, as the loop that collects them has them; and the ray.
use Rattle.std.proofs.Common.{ℕ, suc, ◌+◌, ◌≤◌, ◌<◌, ◌≡◌, refl, sym, Bool, true, false, cond, Some, None, List, [], ◌∷◌, ◌++◌, arith, add-one, length, get_or}
use mathlib.Core.Path.{◌∙◌}
use mathlib.Core.Bool.{true≢false}
use borrow.Author.Tests.{ne_eqb}
use lib.ListN.{length-append, drop}
use lib.Seq.{sets-eq}
use lib.Ieee.{Float, of_bits, le, eq}
use Rattle.loops.specs.Loops.{turns, fronted}
use Rattle.loops.proofs.Turns.{stays}
use Rattle.loops.proofs.Gather.{Each, each_snoc, each_map}
use Rattle.floats.specs.Ops.{◌⊗◌, at, 0ᶠ, 1e-9}
use Rattle.floats.specs.Helpers.{larger}
use Rattle.box_rows.specs.Rows as box
use Rattle.exact_pass.specs.Below.{Below}
use Rattle.exact_pass.specs.Ray as rays
use Rattle.exact_pass.specs.Private as private
use Rattle.exact_pass.specs.Walk as walks
use Rattle.exact_pass.specs.Walk.{Walked, none, these, walked_after}
use Rattle.exact_pass.specs.Promise.{Front, count_of}
use Rattle.exact_pass.specs.Private.{Collected}
use Rattle.exact_pass.specs.declared.RayRows.{RayRows}
use Rattle.exact_pass.proofs.OneWalk.{one-walk}

-- rows below n so far, none of which ends the walk, and their farthest
pub record Going (c : Walked) (n : ℕ) (l : List ℕ) (far : Float) : Type 0 where
  pub is : c ≡ these l far
  pub few : length l ≤ n
  pub below : Each (λ (b : ℕ). b < n) l

module _ (lo hi scale : List Float) (st : List ℕ) (y : List Float) (least : Float) where
  abbrev pub to : ℕ → Walked
  to a = walks.walked lo hi scale st y least a

  abbrev grows_at : ℕ → Bool
  grows_at a = box.grows (at y a) (at lo a) (at hi a)

  abbrev size_at : ℕ → Float
  size_at a = walks.size_at scale y a

  pub collect_start : Going (to 0) 0 [] 0ᶠ
  unfolding walks.walked turns
  collect_start = record { is = refl; few = omega arith; below = tt }

  module _ (a : ℕ) (l : List ℕ) (far : Float) (h : Going (to a) a l far) where
    wider : Each (λ (b : ℕ). b < suc a) l
    wider = each_map (λ b g. omega arith) l h.below

    pub collect_idle : get_or st a 0 ≡ 3 → Going (to (a + 1)) (a + 1) l far
    unfolding walks.walked walks.walk_row walks.walk walks.dropped turns
    collect_idle e = rw (add-one) (record { is = rw (h.is, e); few = omega (arith, h.few); below = wider })

    pub collect_small : (get_or st a 0 ≡ 3 → ⊥) → le (size_at a) least ≡ true → Going (to (a + 1)) (a + 1) l far
    unfolding walks.walked walks.walk_row walks.walk walks.dropped turns
    collect_small e s = rw (add-one) (record { is = rw (h.is, ne_eqb _ _ e, s); few = omega (arith, h.few); below = wider })

    module _ (acts : get_or st a 0 ≡ 3 → ⊥) (far_enough : le (size_at a) least ≡ false) where
      pub collect_taken : grows_at a ≡ true → Going (to (a + 1)) (a + 1) (l ++ (a ∷ [])) (larger far (size_at a))
      unfolding walks.walked walks.walk_row walks.walk walks.dropped turns
      collect_taken g =
          rw (add-one) (record {
            is = rw (h.is, ne_eqb _ _ acts, far_enough, g);
            few = omega (arith, h.few, length-append l (a ∷ []));
            below = each_snoc (λ b. b < suc a) l a wider (omega arith);
          })

      pub collect_stopped : (n : ℕ) → grows_at a ≡ false → a < n → to n ≡ none
      unfolding walks.walked walks.walk_row walks.walk walks.dropped turns
      collect_stopped n g b =
          stays (walks.walk_row lo hi scale st y least) _ none (suc a) (rw (h.is, ne_eqb _ _ acts, far_enough, g)) (λ i j. refl) n b

-- ---- the ray

at_front : (l out : List ℕ) → length l ≤ length out → l ++ drop (length l) out ≡ fronted l out
at_front l out h = let z : 0 + length l ≡ length l = omega arith in sym (sets-eq l out 0 (omega arith) ∙ rw z)

-- the rows that a walk has, and their farthest; where it was stopped, none and 0
abbrev rows_of : Walked → List ℕ
rows_of none = []
rows_of (these l far) = l

abbrev farthest_of : Walked → Float
farthest_of none = 0ᶠ
farthest_of (these l far) = far

-- whether the problem of n rows falls along the rows of l, by their farthest
abbrev pub falls_by : ℕ → List Float → List Float → List Float → List ℕ → Float → Bool
falls_by n w u_free y l far = private.falls (private.linear u_free y l (length l)) (private.quadratic w n y l (length l)) far

-- the rows along which the problem falls, by what one walk has; no row makes it fall
falling : (p : box.Problem) (y : List Float) (c : rays.Collected) → let w = walked_after p.scale y c in rays.falling_rows p y c ≡ cond (falls_by (box.size p) p.w p.u_free y (rows_of w) (farthest_of w)) (rows_of w) []
unfolding rays.falling_rows private.falls private.linear private.quadratic private.quadratic_row walks.farthest walked_after turns le of_bits
falling p y rays.none = refl
falling p y (rays.these l) = refl

-- an empty list of rows does not fall
some_fall : (n : ℕ) (w u_free y : List Float) (l : List ℕ) (far : Float) → falls_by n w u_free y l far ≡ true → Some (length l) ≡ count_of l
unfolding private.falls private.linear private.quadratic turns le of_bits
some_fall n w u_free y [] far e = absurd (true≢false (sym e))
some_fall n w u_free y (a ∷ l) far e = refl

-- the answer, where the largest of the sizes of n rows is s
module _ (p : box.Problem) (st : List ℕ) (y : List Float) (out : List ℕ) (n : ℕ) (size : n ≡ box.size p) (s : Float) (largest : s ≡ private.largest p.scale st y n) where
  -- by the largest and the rows collected
  ray_by : rays.ray p st y ≡ cond (eq s 0ᶠ) [] (rays.falling_rows p y (walks.collected p.lo p.hi p.scale st y (1e-9 ⊗ s) n))
  unfolding rays.ray private.largest private.largest_row walks.collected
  ray_by = rw (largest, size)

  pub ray_zero : eq s 0ᶠ ≡ true → Front (rays.ray p st y) out None out
  ray_zero e = rw (ray_by, e) (record { count = refl; front = refl })

  module _ (nonzero : eq s 0ᶠ ≡ false) where
    abbrev walk : Walked
    walk = walks.walked p.lo p.hi p.scale st y (1e-9 ⊗ s) n

    ray_is : rays.ray p st y ≡ cond (falls_by n p.w p.u_free y (rows_of walk) (farthest_of walk)) (rows_of walk) []
    ray_is = rw (ray_by, nonzero, falling p y _, ← one-walk p.lo p.hi p.scale st y (1e-9 ⊗ s) n, ← size)

    pub ray_stopped : (rows : List ℕ) → Collected None rows n walk → Front (rays.ray p st y) out None out
    unfolding private.falls private.linear turns le of_bits
    ray_stopped rows c = go walk refl c
      where
        go : (w : Walked) → walk ≡ w → Collected None rows n w → Front (rays.ray p st y) out None out
        go none e c = rw (ray_is, e) (record { count = refl; front = refl })
        go (these l far) e c = absurd c

    module _ (c : RayRows) (l : List ℕ) (found : Collected (Some c) l n walk) where
      parts : (walk ≡ these l c.farthest) × (c.count ≡ length l) × (length l ≤ n) × Below n l
      parts = go walk refl found
        where
          go : (w : Walked) → walk ≡ w → Collected (Some c) l n w → (walk ≡ these l c.farthest) × (c.count ≡ length l) × (length l ≤ n) × Below n l
          go none e g = cc
          go (these m far) e g = (rw (g.0, g.2) e, rw (← g.0) at g.1, rw (← g.0) at g.3, rw (← g.0) at g.4)

      pub ray_few : length l ≤ n
      ray_few = parts.2

      pub ray_below : Below n l
      ray_below = parts.3

      pub ray_count : c.count ≡ length l
      ray_count = parts.1

      pub ray_found : falls_by n p.w p.u_free y l c.farthest ≡ true → n ≤ length out → Front (rays.ray p st y) out (Some c.count) (l ++ drop c.count out)
      ray_found e h = rw (ray_is, parts.0, e, ray_count) (record { count = some_fall n p.w p.u_free y l c.farthest e; front = at_front l out (omega (arith, ray_few)) })

      pub ray_not : falls_by n p.w p.u_free y l c.farthest ≡ false → Front (rays.ray p st y) out None out
      ray_not e = rw (ray_is, parts.0, e) (record { count = refl; front = refl })
