use Rattle.std.proofs.Common.{◌≡◌, ℕ, ◌+◌}
use Rattle.std.specs.Float.{nan}
use lib.Ieee.{Float}
use Rattle.loops.specs.Updates.{updated}
use Rattle.floats.specs.Ops.{at, ◌⊖◌, ◌⊗◌}
use Rattle.least_norm.proofs.lanes.less_lanes.Given as goal

abbrev pub invariant-loop-t : goal.invariant-loop-t
invariant-loop-t g l = l.x ≡ updated nan (λ (t : ℕ). l.p + t) (λ (t : ℕ) (v : Float). v ⊖ at l.fn.f t ⊗ l.y) 0 l.t l.initial.x
