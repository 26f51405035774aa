use native.Mathlib.Omega.{arith}
use borrow.Author.Rules.{rules}
use Rattle.bend_writer.proofs.Passes.{seen_start, size-refused, size-inside, size_again, seen_done}
use Rattle.bend_writer.proofs.checks.steps_checked.Goals as goal

pub loop-step-init : goal.loop-step-init
loop-step-init c = seen_start _ _ _ _

pub returns-in_err-check : goal.returns-in_err-check
returns-in_err-check c = rw (← size-refused _ _ _ _ c.loop-step.invariant _ c.loop-step-test.true c.in_err-check.ensures) (search rules)

pub overflow_add-from : goal.overflow_add-from
overflow_add-from c = omega (arith, size-inside _ _ _ _ c.loop-step.invariant _ c.in_ok-check.ensures)

pub loop-step-preserved : goal.loop-step-preserved
loop-step-preserved c = size_again _ _ _ _ c.loop-step.invariant _ c.in_ok-check.ensures

pub returns : goal.returns
returns c = seen_done _ _ _ _ _ _ _ c.loop-step.invariant c.loop-step.auto.step-index-end c.loop-step-test.false
