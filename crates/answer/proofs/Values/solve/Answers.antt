use Rattle.answer.specs.Output as def
use Rattle.answer.proofs.Laws.{left_laid}
use Rattle.answer.proofs.Values.solve.Goals as goal

pub returns : goal.returns
unfolding def.solved
returns c = left_laid _ _ _ _ _ _ _ _ _ _ c.solve-answer.ensures c.print.ensures
