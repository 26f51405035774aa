use Rattle.boxed.proofs.Testing.{still_moves, has-converged, tries-ray}
use Rattle.boxed.proofs.tests.tests.Goals as goal

pub returns-then-residual : goal.returns-then-residual
returns-then-residual c = has-converged _ _ _ _ _ _ _ c.moved.ensures c.if-moved-watch.true _ c.residual.ensures c.if-residual.true

pub returns-then-moved-watch : goal.returns-then-moved-watch
returns-then-moved-watch c = tries-ray _ _ _ _ _ _ _ c.moved.ensures c.if-moved-watch.true _ c.residual.ensures c.if-residual.false _ _ c.ray_test.ensures

pub returns : goal.returns
returns c = still_moves _ _ _ _ _ _ _ c.moved.ensures c.if-moved-watch.false
