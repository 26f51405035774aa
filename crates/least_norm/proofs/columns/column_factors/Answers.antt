use native.Mathlib.Omega.{arith}
use lib.ListN.{length-replicate}
use Rattle.floats.specs.Ops.{0ᶠ}
use Rattle.least_norm.proofs.Blocks.{factors_are}
use Rattle.least_norm.proofs.columns.column_factors.Goals as goal

pub returns : goal.returns
returns g c =
    factors_are _ _ _ _ _ _ _ _ _ _ _ _ _ _ c.factors.ensures c.add_products.ensures c.scaled-first.ensures c.place.ensures.0
    (omega (arith, length-replicate g.row.K 0ᶠ)) (omega (arith, c.args.h.now.inside, c.requires))
