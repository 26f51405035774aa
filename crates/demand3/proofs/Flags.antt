-- The flags that the tally takes a report with are those of demand 3: no multiplier is NaN, by the tally's walk over the rows and by demand 3's over the list.
use Prim.Native.Nat.{ℕ, zero, suc}
use mathlib.Core.Path.{◌≡◌, refl, sym, ◌∙◌, ap}
use mathlib.Core.Bool.{Bool, not, ◌&&◌, and-true, and_assoc}
use mathlib.Core.List.{List, [], ◌∷◌}
use lib.ListN.{length}
use lib.Ieee.{Float, ne}
use Rattle.loops.specs.Loops.{every}
use Rattle.floats.specs.Helpers.{nan_test}
use Rattle.tally.specs.Tally.{not_nan_at, no_nan, turned, taken}
use Rattle.demand3.specs.Demand.{Accepted, taken_as, all_of, not_nan, converged_without_nan, exact_without_nan}

-- every number below k + 1 passes: 0 does, and every other
every_front : (test : ℕ → Bool) (k : ℕ) → every test (suc k) ≡ test 0 && every (λ i. test (suc i)) k
unfolding every
every_front test zero = sym (and-true (test 0))
every_front test (suc k) = ap (λ (b : Bool). b && test (suc k)) (every_front test k) ∙ and_assoc (test 0) (every (λ i. test (suc i)) k) (test (suc k))

no-nan-is : (nu : List Float) → no_nan nu ≡ all_of not_nan nu
unfolding no_nan every nan_test
no-nan-is [] = refl
no-nan-is (x ∷ l) = every_front (not_nan_at (x ∷ l)) (length l) ∙ ap (λ (b : Bool). not (ne x x) && b) (no-nan-is l)

pub all_same : {A : Type 0} (f g : A → Bool) → ((a : A) → f a ≡ g a) → (l : List A) → all_of f l ≡ all_of g l
all_same f g e [] = refl
all_same f g e (a ∷ l) = rw (e a, all_same f g e l)

pub converged-is : (a : Accepted) → (taken_as a).converged ≡ converged_without_nan a
unfolding taken turned
converged-is a = ap (λ (b : Bool). a.report.converged && b) (no-nan-is a.nu)

pub exact-is : (a : Accepted) → (taken_as a).exact ≡ exact_without_nan a
unfolding taken turned
exact-is a = ap (λ (b : Bool). a.report.exact && b) (no-nan-is a.nu)
