use native.Mathlib.Omega.{arith}
use Rattle.least_norm.proofs.Blocks.{block-is}
use Rattle.least_norm.proofs.columns.reflect_lanes.Goals as goal

pub returns : goal.returns
returns g c =
    block-is _ _ _ _ _ _ _ _ _ _ _ c.less_rows.ensures c.column_factors-f.ensures c.requires.1.1
    (omega (arith, c.args.h.now.inside, c.requires)) c.requires.2 c.requires.3 c.requires.0
