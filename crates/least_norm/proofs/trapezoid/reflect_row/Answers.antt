use Rattle.least_norm.proofs.Rows.{reflect_row-run}
use Rattle.least_norm.proofs.trapezoid.reflect_row.Goals as goal

pub returns : goal.returns
returns c =
    reflect_row-run _ _ _ _ _ _ _ c.reflect.ensures c.requires.0 c.requires.1 c.args.u.now.inside.0 c.args.u.now.inside.1
