use Rattle.std.proofs.Common.{sym}
use mathlib.Core.Path.{◌∙◌}
use Rattle.boxed.proofs.Checks.{member_any}
use Rattle.boxed.proofs.checkpoints.is_checkpoint.Goals as goal

pub returns-then-contains : goal.returns-then-contains
returns-then-contains c = rw (← member_any, sym c.contains.ensures.value ∙ c.if-contains.true) c.if-contains.true

pub returns-else-contains : goal.returns-else-contains
returns-else-contains c = rw (← member_any, sym c.contains.ensures.value ∙ c.if-contains.false)
