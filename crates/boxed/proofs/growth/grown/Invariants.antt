use Rattle.std.proofs.Common.{◌≤◌}
use Rattle.boxed.specs.Private as private
use Rattle.loops.specs.Gathering.{Gathering}
use Rattle.boxed.proofs.growth.grown.Given as goal

abbrev pub invariant-loop-i : goal.invariant-loop-i
invariant-loop-i l = (l.k ≤ l.i) × Gathering (private.grown_at l.nu l.scale) l.initial.rows l.i l.k l.rows
