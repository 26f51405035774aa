use Rattle.std.proofs.Common.{◌≡◌, ◌+◌, ◌*◌, ◌^◌, length, take, not}
use Rattle.std.specs.Int.{from_bool}
use Rattle.accumulator.specs.Accumulators.{value, base}
use Rattle.nearest.proofs.magnitude.negated.Given as goal

abbrev pub invariant-loop-i : goal.invariant-loop-i
invariant-loop-i l = (length l.left ≡ 67) × (value (take l.i l.left) + value (take l.i l.words) + from_bool (not l.borrow) * base ^ l.i ≡ base ^ l.i)
