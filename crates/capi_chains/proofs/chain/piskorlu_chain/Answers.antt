use Prim.Native.Nat.{◌≤◌}
use native.Mathlib.Omega.{arith}
use mathlib.Core.Path.{sym, ◌∙◌}
use lib.ListN.{length, length-take}
use borrow.Author.Tests.{eqb-true, eqb-false}
use Rattle.capi_chains.proofs.Chains.{no_steps, few-ends, chain-refused, ends-long, chain-taken}
use Rattle.capi_chains.proofs.chain.piskorlu_chain.Goals.{then-is_empty-via-then-is_empty, then-is_empty-via-else-is_empty+then-ends-lt-MAX_STEPS}
use Rattle.capi_chains.proofs.chain.piskorlu_chain.Goals as goal

pub returns-then-is_empty : goal.returns-then-is_empty
returns-then-is_empty c = rw c.from.ensures
    (elim c.then-is_empty.branch [
      | then-is_empty-via-then-is_empty w ↦ no_steps _ _ _ (omega (arith, eqb-true (length c.args.steps.now) 0 (sym c.is_empty.ensures ∙ w.if-is_empty.true)))
      | then-is_empty-via-else-is_empty+then-ends-lt-MAX_STEPS w ↦ few-ends _ _ _ w.if-ends-lt-MAX_STEPS.true
    ])

pub copy_from_slice-requires : goal.copy_from_slice-requires
copy_from_slice-requires c =
    let some : 1 ≤ length c.args.steps.now = omega (arith, eqb-false (length c.args.steps.now) 0 (sym c.is_empty.ensures ∙ c.if-is_empty.false)) in
    omega (arith, length-take 40 c.args.ends.now, ends-long c.args.file.now c.args.steps.now c.args.ends.now some c.if-ends-lt-MAX_STEPS.false _ c.in-Ok.ensures)

pub returns-in-Err : goal.returns-in-Err
returns-in-Err c =
    let some : 1 ≤ length c.args.steps.now = omega (arith, eqb-false (length c.args.steps.now) 0 (sym c.is_empty.ensures ∙ c.if-is_empty.false)) in
    rw c.from-in-Err.ensures (chain-refused _ _ _ some c.if-ends-lt-MAX_STEPS.false _ c.in-Err.ensures)

pub returns-in-Ok : goal.returns-in-Ok
returns-in-Ok c =
    let some : 1 ≤ length c.args.steps.now = omega (arith, eqb-false (length c.args.steps.now) 0 (sym c.is_empty.ensures ∙ c.if-is_empty.false)) in
    chain-taken _ _ _ some c.if-ends-lt-MAX_STEPS.false _ c.in-Ok.ensures _ c.copy_from_slice.ensures.after
