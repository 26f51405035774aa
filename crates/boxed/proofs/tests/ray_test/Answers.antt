use Rattle.boxed.proofs.Testing.{no-ray, some-ray}
use Rattle.boxed.proofs.tests.ray_test.Goals as goal

pub returns-in_err-k : goal.returns-in_err-k
returns-in_err-k c = rw c.from_residual.ensures (no-ray c.args.p.now.sized c.requires _ _ c.direction.ensures _ _ c.ray_of.ensures c.in_err-k.was)

pub returns : goal.returns
returns c = some-ray c.args.p.now.sized c.requires _ _ c.direction.ensures _ _ c.ray_of.ensures _ c.in_ok-k.was
