use Rattle.std.proofs.Common.{◌≡◌}
use Rattle.box_rows.specs.Rows.{row_sum}
use Rattle.box_rows.proofs.row_sum.Given as goal

abbrev pub invariant-loop-entry : goal.invariant-loop-entry
invariant-loop-entry l = row_sum l.row l.u l.nu ≡ row_sum l.entry-iterator.a.rest.now l.s l.entry-iterator.b.rest.now
