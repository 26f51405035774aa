use native.Mathlib.Omega.{arith}
use Rattle.least_norm.proofs.Runs.{householder-run}
use Rattle.least_norm.proofs.columns.householder.Goals as goal

pub returns : goal.returns
returns c = householder-run _ _ _ _ _ _ _ _ c.copy_column.ensures (omega arith) c.requires.1 c.dot-sigma.ensures c.beta-beta.ensures
