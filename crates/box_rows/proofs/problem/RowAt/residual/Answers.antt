use Rattle.box_rows.specs.Rows as box
use Rattle.box_rows.proofs.problem.RowAt.residual.Goals as goal

pub returns : goal.returns
unfolding box.residual_at
returns c = rw (c.natural_residual.ensures, c.numbers.ensures)
