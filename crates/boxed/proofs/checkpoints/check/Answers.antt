use Rattle.boxed.proofs.Checks.{check-tried, check-not}
use Rattle.boxed.proofs.checkpoints.check.Goals as goal

pub returns-then-is_checkpoint : goal.returns-then-is_checkpoint
returns-then-is_checkpoint c = check-tried _ _ _ _ _ _ _ _ c.is_checkpoint.ensures c.if-is_checkpoint.true _ _ _ _ _ c.attempt.ensures

pub returns : goal.returns
returns c = check-not _ _ _ _ _ _ _ _ c.is_checkpoint.ensures c.if-is_checkpoint.false
