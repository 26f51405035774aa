use Rattle.std.proofs.Common.{◌≡◌}
use Rattle.std.specs.Prelude.{slice_range}
use lib.Ieee.{binary64, add}
use Rattle.least_norm.specs.Private.{paired}
use Rattle.least_norm.proofs.vector.dot.Given as goal

abbrev pub invariant-loop-a : goal.invariant-loop-a
invariant-loop-a l =
    paired (add binary64) l.s (slice_range l.x l.lo l.hi) (slice_range l.y l.lo l.hi) ≡ paired (add binary64) l.r l.a-iterator.a.rest.now l.a-iterator.b.rest.now
