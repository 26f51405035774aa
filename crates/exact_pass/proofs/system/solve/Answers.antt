use Rattle.exact_pass.proofs.Systems.{solved}
use Rattle.exact_pass.proofs.system.solve.Goals as goal

pub returns : goal.returns
returns c = solved _ c.requires _ _ c.solve.ensures.x_is c.solve.ensures.workspace_left
