use Rattle.std.proofs.Common.{◌≡◌, ℕ, ◌+◌, ◌*◌}
use Rattle.std.specs.Float.{nan}
use lib.Ieee.{Float}
use Rattle.loops.specs.Updates.{updated}
use Rattle.floats.specs.Ops.{at}
use Rattle.least_norm.proofs.columns.copy_column.Given as goal

abbrev pub invariant-loop-row : goal.invariant-loop-row
invariant-loop-row l = l.v ≡ updated nan (λ (row : ℕ). row) (λ (row : ℕ) (x : Float). at l.a.entries.now (row * l.a.size.n + l.j)) l.j l.row l.initial.v
