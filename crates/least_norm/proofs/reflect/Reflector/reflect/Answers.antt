use mathlib.Core.Path.{refl}
use Rattle.least_norm.proofs.Runs.{reflect-run}
use Rattle.least_norm.proofs.reflect.Reflector.reflect.Goals as goal

pub returns : goal.returns
returns c = reflect-run _ _ _ _ _ _ _ _ _ c.less_scaled.ensures refl c.dot.ensures
