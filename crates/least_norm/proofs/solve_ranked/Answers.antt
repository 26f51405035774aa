use Rattle.least_norm.proofs.Runs.{solved-run}
use Rattle.least_norm.proofs.Starts.{zeros-substituted, order-run}
use Rattle.least_norm.proofs.solve_ranked.Goals as goal

pub returns : goal.returns
returns c = solved-run _ _ _ _ _ _ _ _ _ _
    (order-run _ _ _ _ _ c.unpermute.ensures c.requires.3 c.requires.5 c.args.order.now.onto)
    c.requires.3 c.turn_back.ensures
    (zeros-substituted _ _ _ _ _ _ c.substitute.ensures c.requires.4) c.clear.ensures
    c.requires.1
