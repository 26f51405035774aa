use Rattle.least_norm.proofs.Starts.{full-run}
use Rattle.least_norm.proofs.solve_full.Goals as goal

pub returns : goal.returns
returns c = let pre = c.requires in
    full-run _ _ _ _ _ _ _ _ _ pre.2 c.unpermute.ensures c.substitute.ensures pre.4 pre.3 pre.0.2
    c.args.order.now.onto pre.1
