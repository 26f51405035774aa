-- How many exact passes are due after k sweeps: the solver's test of a sweep against the claim's count of members.
use Prim.Native.Nat.{ℕ, suc, ◌≤◌, ◌<◌}
use mathlib.Core.Path.{◌≡◌, refl}
use mathlib.Core.Bool.{Bool, true, false, cond}
use native.Mathlib.Omega.{arith}
use lib.Dec.{leb, eqb}
use borrow.Author.Tests.{eqb-true}
use Rattle.loops.specs.Loops.{every}
use Rattle.loops.proofs.Every.{every-at}
use Rattle.boxed.specs.Solve.{member, checkpoint, SWEEP_CAP}
use Rattle.demand3.specs.Claims.{not_above, below}

-- one more at each checkpoint
rule : every (λ k. eqb (not_above (suc k)) (cond (checkpoint SWEEP_CAP (suc k)) (suc (not_above k)) (not_above k))) 200 ≡ true
unfolding every member not_above
rule = refl

pub due-next : (k : ℕ) → k < 200 → not_above (suc k) ≡ cond (checkpoint SWEEP_CAP (suc k)) (suc (not_above k)) (not_above k)
due-next k h = eqb-true _ _ (every-at (λ k. eqb (not_above (suc k)) (cond (checkpoint SWEEP_CAP (suc k)) (suc (not_above k)) (not_above k))) 200 rule k h)

pub due-zero : not_above 0 ≡ 0
unfolding not_above
due-zero = refl

few : (b : Bool) → cond b 1 0 ≤ 1
few true = omega arith
few false = omega arith

pub due-most : (k : ℕ) → not_above k ≤ 9
unfolding not_above
due-most k =
    omega (arith, few (leb 1 k), few (leb 2 k), few (leb 4 k), few (leb 8 k), few (leb 16 k), few (leb 32 k), few (leb 64 k), few (leb 128 k), few (leb 200 k))

-- not above k is below k + 1
below_rule : every (λ k. eqb (below (suc k)) (not_above k)) 200 ≡ true
unfolding every below not_above
below_rule = refl

pub below-is : (k : ℕ) → k < 200 → below (suc k) ≡ not_above k
below-is k h = eqb-true (below (suc k)) (not_above k) (every-at (λ k. eqb (below (suc k)) (not_above k)) 200 below_rule k h)
