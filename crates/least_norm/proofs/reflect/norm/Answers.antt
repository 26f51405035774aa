use mathlib.Core.Path.{◌≡◌, sym, ◌∙◌, subst}
use mathlib.Core.Bool.{true}
use lib.Dec.{T}
use lib.Ieee.{Float, lt}
use Rattle.floats.proofs.SquareRoot.Square.{lowest, highest, root_of-square}
use Rattle.least_norm.proofs.reflect.norm.Goals as goal

pub returns-then-size-2 : goal.returns-then-size-2
returns-then-size-2 c = let e = c.abs-size.ensures in
    e ∙ root_of-square c.args.alpha c.args.sigma (subst T (sym c.well_formed.0.1) tt)
    c.if-sigma.true (subst (λ (x : Float). lt lowest x ≡ true) e c.if-size.true)
    (subst (λ (x : Float). lt x highest ≡ true) e c.if-size-2.true)
