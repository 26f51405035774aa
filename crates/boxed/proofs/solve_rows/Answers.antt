use Rattle.boxed.proofs.Solving.{all-idle, some_act}
use Rattle.boxed.proofs.solve_rows.Goals as goal

pub returns-then-idle-n : goal.returns-then-idle-n
returns-then-idle-n c = all-idle _ _ _ _ _ _ _ _ _ c.start-idle.ensures.start (rw c.n.ensures at c.if-idle-n.true) _ c.nothing.ensures _

pub returns : goal.returns
returns c = some_act _ _ _ _ _ _ _ _ _ c.start-idle.ensures.start (rw c.n.ensures at c.if-idle-n.false) _ _ _ _ _ _ _ _ _ c.run-ended.ensures c.answer.ensures
