use native.Mathlib.Omega.{arith}
use Rattle.bend_file.proofs.Values.{values-start, values_again}
use borrow.Author.Rules.{rules}
use Rattle.bend_file.proofs.lent.Next.fill.Goals as goal

pub loop-value-init : goal.loop-value-init
loop-value-init c = search (values-start, rules)

pub loop-value-preserved : goal.loop-value-preserved
loop-value-preserved c =
    let l = c.loop-value in (
      l.invariant.0,
      omega arith,
      values_again _ _ _ _ _ _ _ _ l.invariant.2 (omega arith) (omega arith) c.f64_at.ensures (omega arith),
    )
