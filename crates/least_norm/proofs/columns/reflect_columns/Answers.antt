use native.Mathlib.Omega.{arith}
use Rattle.loops.proofs.Turns.{between-from, between_more}
use Rattle.least_norm.proofs.columns.reflect_columns.Goals as goal

pub loop-next-init : goal.loop-next-init
loop-next-init g c = (omega arith, omega arith, between-from _ _ _)

pub loop-next-preserved : goal.loop-next-preserved
loop-next-preserved g c = (
  omega arith,
  omega arith,
  between_more _ _ _ _ _ _ _ c.reflect_lanes.ensures c.loop-next.invariant.2 c.loop-next.invariant.0 (omega arith),
)
