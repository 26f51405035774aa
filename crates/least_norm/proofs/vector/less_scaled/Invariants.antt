use Rattle.std.proofs.Common.{◌≡◌, ℕ}
use Rattle.floats.specs.Ops.{at}
use Rattle.least_norm.specs.Private.{less}
use Rattle.least_norm.proofs.vector.less_scaled.Given as goal

abbrev pub invariant-loop-t : goal.invariant-loop-t
invariant-loop-t l = l.x ≡ less (λ (t : ℕ). t) l.f (λ (t : ℕ). at l.y t) l.lo l.t l.initial.x
