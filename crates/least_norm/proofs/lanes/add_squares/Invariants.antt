use Rattle.std.proofs.Common.{◌≡◌, ℕ, ◌+◌, length}
use Rattle.std.specs.Float.{nan}
use lib.Ieee.{Float}
use Rattle.loops.specs.Updates.{updated}
use Rattle.floats.specs.Ops.{at, ◌⊕◌, ◌⊗◌}
use Rattle.least_norm.proofs.lanes.add_squares.Given as goal

abbrev pub invariant-loop-t : goal.invariant-loop-t
invariant-loop-t g l =
    (length l.s ≡ g.row.K) × (l.s ≡ updated nan (λ (t : ℕ). t) (λ (t : ℕ) (v : Float). v ⊕ at l.x (l.p + t) ⊗ at l.x (l.p + t)) 0 l.t l.initial.s)
