-- The theorem at one list of three solves (growth, an infeasible one found by a pass, a refusal) in two orders. Its tally is computed in the tally's worked lists.
use Prim.Native.Nat.{ℕ, ◌<◌}
use mathlib.Core.Path.{◌≡◌, refl, sym}
use mathlib.Core.Bool.{Bool, true, false, ◌&&◌, true≢false}
use mathlib.Core.List.Permᴰ
use mathlib.Core.List.{[], ◌∷◌}
use lib.Dec.{T, lit≤}
use lib.Ieee.{binary64, of_bits, le, lt, eq, fits}
use Rattle.loops.specs.Loops.{every}
use Rattle.loops.proofs.Every.{every-at}
use Rattle.floats.specs.Ops.{at, Fits}
use Rattle.box_rows.specs.Rows.{Problem, size}
use Rattle.tally.specs.Examples.{grows, fights, refuses}
use Rattle.demand3.specs.Claims.{BoundsInOrder}
use Rattle.demand3.specs.Demand.{Demanded}
use Rattle.demand3.proofs.Theorem.{demand3}

-- every lower bound at most its upper, by one computed test
abbrev in_order_at : Problem → ℕ → Bool
in_order_at p i = le (at p.lo i) (at p.hi i) && (fits binary64 (at p.lo i) && fits binary64 (at p.hi i))

apart : (a b c : Bool) → a && (b && c) ≡ true → (a ≡ true) × T b × T c
apart true true true h = (refl, tt, tt)
apart true true false h = absurd (true≢false (sym h))
apart true false c h = absurd (true≢false (sym h))
apart false b c h = absurd (true≢false (sym h))

in_order : (p : Problem) → every (in_order_at p) (size p) ≡ true → BoundsInOrder p
in_order p h =
    let here : (i : ℕ) → i < size p → (le (at p.lo i) (at p.hi i) ≡ true) × Fits (at p.lo i) × Fits (at p.hi i)
    = λ i b. apart (le (at p.lo i) (at p.hi i)) (fits binary64 (at p.lo i)) (fits binary64 (at p.hi i)) (every-at (in_order_at p) (size p) h i b) in
    record { ordered = λ i b. (here i b).0; lows = λ i b. (here i b).1; highs = λ i b. (here i b).2 }

grows_in_order : BoundsInOrder grows.problem
unfolding every le lt eq of_bits fits
grows_in_order = in_order grows.problem refl

fights_in_order : BoundsInOrder fights.problem
unfolding every le lt eq of_bits fits
fights_in_order = in_order fights.problem refl

refuses_in_order : BoundsInOrder refuses.problem
unfolding every le lt eq of_bits fits
refuses_in_order = in_order refuses.problem refl

instance : Demanded (grows ∷ fights ∷ refuses ∷ []) (fights ∷ grows ∷ refuses ∷ [])
instance =
    demand3 (grows ∷ fights ∷ refuses ∷ []) (fights ∷ grows ∷ refuses ∷ []) (Permᴰ.swap refl refl) (lit≤ tt)
    ((λ e. grows_in_order), ((λ e. fights_in_order), ((λ e. refuses_in_order), tt)))
