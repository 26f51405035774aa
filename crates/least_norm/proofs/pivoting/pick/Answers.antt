use native.Mathlib.Omega.{arith}
use Rattle.loops.proofs.Turns.{between-from, between_more}
use Rattle.least_norm.proofs.Runs.{block-picked}
use Rattle.least_norm.proofs.pivoting.pick.Goals as goal

pub loop-next-init : goal.loop-next-init
loop-next-init g c = (omega arith, omega arith, omega arith, between-from _ _ _)

pub loop-next-preserved : goal.loop-next-preserved
loop-next-preserved g c = (
  omega arith,
  omega arith,
  omega arith,
  between_more _ _ _ _ _ _ _
      (block-picked _ _ _ _ _ _ _ _ _ c.pick_lanes-best.ensures.0 c.column_norms-s.ensures c.requires.0)
      c.loop-next.invariant.3 c.loop-next.invariant.0 (omega arith),
)
