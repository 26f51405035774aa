use Rattle.floats.proofs.SquareRoot.Normal.{asked, whole, root-pattern}
use Rattle.floats.proofs.root.Positive.root_bits.Goals as goal

pub invariant_of-even : goal.invariant_of-even
invariant_of-even c = record { few = asked c.scaled-s.ensures }

pub returns : goal.returns
returns c = root-pattern c.root-p.result c.scaled-s.ensures (whole c.root-p.result c.scaled-s.ensures c.root-p.ensures.low c.root-p.ensures.high)
