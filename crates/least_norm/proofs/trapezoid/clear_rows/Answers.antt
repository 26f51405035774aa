use native.Mathlib.Omega.{arith}
use borrow.Author.Rules.{rules}
use Rattle.least_norm.proofs.Steps.{cleared-from}
use Rattle.least_norm.proofs.Rows.{cleared_again}
use Rattle.least_norm.proofs.trapezoid.clear_rows.Goals as goal

pub loop-i-init : goal.loop-i-init
loop-i-init c = search (cleared-from, rules)

pub loop-i-preserved : goal.loop-i-preserved
loop-i-preserved c =
    cleared_again _ _ _ _ _ _ _ (omega arith) (omega arith) (omega arith) (omega arith) c.loop-i.invariant c.clear_row.ensures
