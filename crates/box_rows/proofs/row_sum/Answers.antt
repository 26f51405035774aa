use Rattle.std.proofs.Common.{sym}
use Rattle.std.proofs.Math.Logic.{⊎_elim}
use mathlib.Core.Path.{◌∙◌}
use Rattle.box_rows.specs.Rows.{row_sum}
use Rattle.box_rows.proofs.Sums.{row_sum_ended, row_sum_ended-2}
use Rattle.box_rows.proofs.row_sum.Goals as goal

pub loop-entry-preserved : goal.loop-entry-preserved
unfolding row_sum
loop-entry-preserved c = rw (c.in-Some.ensures.steps.0, c.in-Some.ensures.steps.1) at c.loop-entry.invariant

pub returns : goal.returns
returns c =
    ⊎_elim
    (λ e. row_sum_ended _ _ _ e.1.0 ∙ sym c.loop-entry.invariant)
    (λ e. row_sum_ended-2 _ _ _ e.1.0 ∙ sym c.loop-entry.invariant)
    c.in-None.ensures.steps
