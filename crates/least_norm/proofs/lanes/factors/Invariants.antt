use Rattle.std.proofs.Common.{◌≡◌, ℕ, length}
use Rattle.std.specs.Float.{nan}
use lib.Ieee.{Float}
use Rattle.loops.specs.Updates.{updated}
use Rattle.floats.specs.Ops.{2ᶠ, ◌⊗◌, ◌⊘◌}
use Rattle.least_norm.proofs.lanes.factors.Given as goal

abbrev pub invariant-loop-v : goal.invariant-loop-v
invariant-loop-v g l =
    (length l.v-items ≡ g.row.K) × (l.v-items ≡ updated nan (λ (t : ℕ). t) (λ (t : ℕ) (v : Float). 2ᶠ ⊗ v ⊘ l.d) 0 l.v-index l.initial.v-items)
