use Prim.Native.Nat.{◌≤◌}
use native.Mathlib.Omega.{arith}
use mathlib.Core.Path.{sym, ◌∙◌}
use lib.ListN.{length}
use borrow.Author.Tests.{eqb-true, eqb-false}
use Rattle.capi_chains.proofs.Chains.{no-shape, no-tolerance, step_given}
use Rattle.capi_chains.proofs.chain.piskorlu_chain_step.Goals.{then-shape-lt2-via-then-shape-lt2, then-shape-lt2-via-else-shape-lt2+then-is_empty}
use Rattle.capi_chains.proofs.chain.piskorlu_chain_step.Goals as goal

pub returns-then-shape-lt2 : goal.returns-then-shape-lt2
returns-then-shape-lt2 c = rw c.from.ensures
    (elim c.then-shape-lt2.branch [
      | then-shape-lt2-via-then-shape-lt2 w ↦ no-shape _ _ _ _ _ w.if-shape-lt2.true
      | then-shape-lt2-via-else-shape-lt2+then-is_empty w ↦ no-tolerance _ _ _ _ _ (omega (arith, eqb-true (length c.args.tolerance.now) 0 (sym w.is_empty.ensures ∙ w.if-is_empty.true)))
    ])

pub returns-in-Err : goal.returns-in-Err
returns-in-Err c =
    let some : 1 ≤ length c.args.tolerance.now = omega (arith, eqb-false (length c.args.tolerance.now) 0 (sym c.is_empty.ensures ∙ c.if-is_empty.false)) in
    rw c.from-in-Err.ensures (step_given _ _ _ _ _ c.if-shape-lt2.false some _ _ (rw c.in-Err.is at c.read_step.ensures))

pub returns-in-Ok-None : goal.returns-in-Ok-None
returns-in-Ok-None c =
    let some : 1 ≤ length c.args.tolerance.now = omega (arith, eqb-false (length c.args.tolerance.now) 0 (sym c.is_empty.ensures ∙ c.if-is_empty.false)) in
    step_given _ _ _ _ _ c.if-shape-lt2.false some _ _ (rw c.in-Ok-None.field-0-is at (rw c.in-Ok-None.is at c.read_step.ensures))

pub returns-in-Ok-Some : goal.returns-in-Ok-Some
returns-in-Ok-Some c =
    let some : 1 ≤ length c.args.tolerance.now = omega (arith, eqb-false (length c.args.tolerance.now) 0 (sym c.is_empty.ensures ∙ c.if-is_empty.false)) in
    step_given _ _ _ _ _ c.if-shape-lt2.false some _ _ (rw c.in-Ok-Some.field-0-is at (rw c.in-Ok-Some.is at c.read_step.ensures))
