-- A solve that is not refused frees the front of the workspace.
use Prim.Native.Nat.{ℕ}
use mathlib.Core.Path.{◌≡◌, refl}
use mathlib.Core.Bool.{Bool, true, false, cond}
use mathlib.Core.List.{List}
use lib.Dec.{eqb}
use lib.Ieee.{Float}
use Rattle.box_rows.specs.Rows.{Problem, size}
use Rattle.boxed.specs.Sweep.{Start, start}
use Rattle.boxed.specs.Solve.{WORKSPACE, Run, going, ended, exact, converged, conflict, iterate, counts, Watch, run, solved, unfound, result, solve, used}
use Rattle.boxed.specs.Private.{result_with, nothing}

result_uses : (p : Problem) (idle : ℕ) (l : List ℕ) (r : Run) → used (result p idle l r).outcome ≡ WORKSPACE
unfolding result unfound
result_uses p idle l (going s) = refl
result_uses p idle l (ended converged s) = refl
result_uses p idle l (ended exact s) = refl
result_uses p idle l (ended (conflict c r) s) = refl

pub solve_uses : (cap : ℕ) (p : Problem) (m : Watch) (nu : List Float) (st l : List ℕ) → used (solve cap p m nu st l).outcome ≡ WORKSPACE
unfolding solve
solve_uses cap p m nu st l = go (start p.w (size p) p.lo p.hi nu st (size p)) (eqb (start p.w (size p) p.lo p.hi nu st (size p)).idle (size p))
  where
    go : (b : Start) (c : Bool)
        → used (cond c (result_with (solved (nothing b.idle)) b.nu b.states l) (result p b.idle l (run cap p m (iterate b.nu b.states (counts 0 0 0)) cap))).outcome ≡ WORKSPACE
    go b true = refl
    go b false = result_uses p b.idle l (run cap p m (iterate b.nu b.states (counts 0 0 0)) cap)
