use Rattle.std.proofs.Common.{◌≡◌, ◌+◌, ◌≤◌, min, length}
use Rattle.accumulator.specs.Accumulators as acc
use Rattle.accumulator.specs.Steps as steps
use Rattle.accumulator.proofs.rows.row.Given as goal

abbrev pub invariant-loop-entry : goal.invariant-loop-entry
invariant-loop-entry l =
    (steps.products l.sum l.entry-iterator.a.rest.now l.entry-iterator.b.rest.now ≡ acc.row l.u l.w l.nu)
    × (l.sum.products + min (length l.entry-iterator.a.rest.now) (length l.entry-iterator.b.rest.now) ≤ 32)
