use native.Mathlib.Omega.{arith}
use Rattle.floats.proofs.SquareRoot.Normal.{lead, of_normal, of_subnormal}
use Rattle.floats.proofs.root.Positive.scaled.Goals as goal

pub overflow_sub-z : goal.overflow_sub-z
overflow_sub-z c = omega (arith, lead c.args.self.bits c.args.self.positive c.if-b-lt-HIDDEN_BIT.true)

pub returns-then-b-lt-HIDDEN_BIT : goal.returns-then-b-lt-HIDDEN_BIT
returns-then-b-lt-HIDDEN_BIT c = rw c.from-z.ensures (of_subnormal c.args.self.bits c.args.self.positive c.if-b-lt-HIDDEN_BIT.true)

pub returns : goal.returns
returns c = of_normal c.args.self.bits c.if-b-lt-HIDDEN_BIT.false c.args.self.finite
