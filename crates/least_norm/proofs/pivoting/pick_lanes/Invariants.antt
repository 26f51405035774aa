use Rattle.std.proofs.Common.{◌≡◌, ℕ, ◌+◌, ◌<◌}
use Rattle.loops.specs.Loops.{between}
use Rattle.floats.specs.Ops.{at}
use Rattle.least_norm.specs.declared.Pivot.{Pivot}
use Rattle.least_norm.specs.Private as private
use Rattle.least_norm.proofs.pivoting.pick_lanes.Given as goal

abbrev pub invariant-loop-t : goal.invariant-loop-t
invariant-loop-t g l =
    (l.p ≡ between 0 l.t l.fn.best (λ (t : ℕ) (p : Pivot). private.picked (l.c + t) (at l.fn.s t) p)) × (l.p.col < l.c + l.t)
