use Rattle.accumulator.specs.Accumulators.{value}
use Rattle.nearest.proofs.Steps.{kept_down, kept_up, kept_even}
use Rattle.nearest.proofs.pattern.kept.Goals as goal

pub returns-then-h-eq0 : goal.returns-then-h-eq0
returns-then-h-eq0 c = kept_down (value c.args.m.now) c.args.k c.without-h.result c.without-h.ensures c.requires.1 c.if-h-eq0.true

pub returns-then-any_of_last : goal.returns-then-any_of_last
returns-then-any_of_last c = kept_up (value c.args.m.now) c.args.k c.without-h.result c.without-h.ensures c.requires.1 c.any_of_last.result c.if-h-eq0.false c.any_of_last.ensures c.if-any_of_last.true

pub returns : goal.returns
returns c = kept_even (value c.args.m.now) c.args.k c.without-h.result c.without-h.ensures c.requires.1 c.any_of_last.result c.if-h-eq0.false c.any_of_last.ensures c.if-any_of_last.false
