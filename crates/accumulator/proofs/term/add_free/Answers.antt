use Rattle.std.proofs.Common.{ap, ◌∙◌}
use Rattle.accumulator.specs.Accumulators.{added}
use Rattle.accumulator.proofs.Signs.{free-is}
use Rattle.accumulator.proofs.term.add_free.Goals as goal

pub returns : goal.returns
returns c = (c.in_ok-x.ensures.0, c.add.ensures ∙ ap (added _) (free-is _ _ c.in_ok-x.ensures.1))
