use native.Mathlib.Omega.{arith}
use lib.Seq.{length-take-le}
use Rattle.least_norm.proofs.Runs.{least-run}
use Rattle.least_norm.proofs.Starts.{onto-run}
use Rattle.least_norm.proofs.least_norm.Goals as goal

pub solve_at-requires : goal.solve_at-requires
solve_at-requires c = (
  omega arith,
  omega arith,
  omega arith,
  omega arith,
  omega arith,
  omega arith,
  length-take-le _ _ (omega arith),
  omega arith,
)

pub invariant_of-order : goal.invariant_of-order
invariant_of-order c = record { onto = onto-run _ _ _ _ _ _ _ c.reduce_columns-columns.ensures (omega arith) (omega arith) }

pub returns : goal.returns
returns c = (
  least-run _ _ _ _ _ _ _ _ _ _ c.solve_at.ensures.0 c.leading-rank.ensures.0 c.reduce_columns-columns.ensures c.min.ensures,
  c.solve_at.ensures.1,
  omega arith,
)
