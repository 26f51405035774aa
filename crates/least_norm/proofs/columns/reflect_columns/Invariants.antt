use Rattle.std.proofs.Common.{◌≡◌, ℕ, ◌-◌, ◌≤◌}
use Rattle.floats.specs.Ops.{at}
use Rattle.loops.specs.Loops.{between}
use Rattle.least_norm.specs.Private.{reflect_column}
use Rattle.least_norm.proofs.columns.reflect_columns.Given as goal

abbrev pub invariant-loop-next : goal.invariant-loop-next
invariant-loop-next g l = (l.c ≤ l.next) × (l.next ≤ l.size.n)
    × (l.a ≡ between l.c l.next l.initial.a (reflect_column l.size.m l.size.n l.h.first (at l.h.v.now l.h.first) (λ (row : ℕ). at l.h.v.now row) l.h.vtv))

abbrev pub decreases-loop-next : goal.decreases-loop-next
decreases-loop-next g l = l.size.n - l.next
