use mathlib.Core.Path.{◌∙◌}
use Rattle.bend_file.proofs.Walks.{walk_start, walk_refused, walk_again, walk_done, walk-over}
use Rattle.bend_file.proofs.Front.{front}
use borrow.Author.Rules.{rules}
use Rattle.bend_file.proofs.chain.steps.Goals as goal

pub loop-passed-init : goal.loop-passed-init
loop-passed-init c = walk_start _

pub returns-in_err-step : goal.returns-in_err-step
returns-in_err-step c = rw (← walk_refused _ _ _ _ c.loop-passed.invariant c.loop-passed-test.true _ (c.in_err-step.ensures ∙ front _ _ c.loop-passed.invariant.within)) (search rules)

pub returns-then-step-eq0 : goal.returns-then-step-eq0
returns-then-step-eq0 c = walk_done _ _ _ _ c.loop-passed.invariant c.loop-passed-test.true _ (c.in_ok-step.ensures ∙ front _ _ c.loop-passed.invariant.within) c.if-step-eq0.true

pub loop-passed-preserved : goal.loop-passed-preserved
loop-passed-preserved c = walk_again _ _ _ _ c.loop-passed.invariant c.loop-passed-test.true _ (c.in_ok-step.ensures ∙ front _ _ c.loop-passed.invariant.within) c.if-step-eq0.false

pub returns : goal.returns
returns c = walk-over _ _ _ _ c.loop-passed.invariant c.loop-passed-test.false c.loop-passed.auto.passed-end
