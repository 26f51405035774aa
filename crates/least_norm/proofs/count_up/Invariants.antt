use Rattle.std.proofs.Common.{◌≡◌, ℕ, ◌++◌, drop}
use Rattle.loops.specs.Loops.{tab}
use Rattle.least_norm.proofs.count_up.Given as goal

abbrev pub invariant-loop-i : goal.invariant-loop-i
invariant-loop-i l = l.perm ≡ tab (λ (i : ℕ). i) l.i ++ drop l.i l.initial.perm
