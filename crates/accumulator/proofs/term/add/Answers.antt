use Rattle.std.proofs.Common.{◌%◌, true, false, arith}
use Rattle.accumulator.proofs.Shifts.{top-fits, placed}
use Rattle.accumulator.proofs.Signs.{as_said}
use Rattle.accumulator.proofs.term.add.Goals as goal

pub overflow_cast-terms-2 : goal.overflow_cast-terms-2
overflow_cast-terms-2 c = record { fits = top-fits c.args.digits (c.args.places % 64) c.ranges.digits.fits (omega arith) }

pub returns-then-negative : goal.returns-then-negative
returns-then-negative c = as_said _ _ true _ _ _ c.add.ensures (placed _ _ c.args.digits c.args.places c.halves-low.ensures.0 c.halves-low.ensures.1) c.if-negative.true

pub returns-else-negative : goal.returns-else-negative
returns-else-negative c = as_said _ _ false _ _ _ c.add-else-negative.ensures (placed _ _ c.args.digits c.args.places c.halves-low.ensures.0 c.halves-low.ensures.1) c.if-negative.false
