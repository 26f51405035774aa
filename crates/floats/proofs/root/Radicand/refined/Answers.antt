use mathlib.Core.Path.{refl}
use native.Mathlib.Omega.{arith}
use borrow.Author.Rules.{rules}
use Rattle.floats.proofs.SquareRoot.Halves.{one_less}
use Rattle.floats.proofs.root.Radicand.refined.Goals as goal

pub returns-else-b-w : goal.returns-else-b-w
returns-else-b-w c =
    one_less c.args.self.s c.args.a c.in_ok-u.u _ (omega (arith, c.in_ok-u.ensures)) (search rules) c.if-d-u.false refl c.if-b-w.false
