use Rattle.exact_pass.proofs.Running.{going_start, going_again, going_ended, going_over, pass_ran}
use Rattle.exact_pass.proofs.steps.run.Goals as goal

pub loop-m-init : goal.loop-m-init
loop-m-init c =
    going_start _ _ _ _ _ c.requires _ _ _ _ c.start-acting.auto.nu c.store.ensures _ c.start-acting.ensures.within c.args.p.now.sized.0
    c.start-acting.auto.states c.store.auto.to c.store-2.ensures.part c.store-2.auto.to

pub loop-m-preserved : goal.loop-m-preserved
loop-m-preserved c =
    going_again _ _ _ _ c.loop-m.invariant _ _ _ _ _ c.step.ensures c.loop-m-test.true _ _ _ c.in_default.is c.after_step-m.ensures
    c.step.auto.states c.step.auto.nu c.step.auto.rows c.step.auto.work c.after_step-m.auto.work c.after_step-m.auto.marks

pub returns-in-Some : goal.returns-in-Some
returns-in-Some c =
    pass_ran _ _ _ _ _ c.requires _ _ _ _ c.start-acting.auto.nu c.store.ensures _ _ _ _ _ c.start-acting.ensures c.args.p.now.sized.0
    (going_ended _ _ _ _ c.loop-m.invariant _ _ _ _ _ c.step.ensures c.loop-m-test.true _ c.in-Some.is)

pub returns : goal.returns
returns c =
    pass_ran _ _ _ _ _ c.requires _ _ _ _ c.start-acting.auto.nu c.store.ensures _ _ _ _ _ c.start-acting.ensures c.args.p.now.sized.0
    (going_over _ _ _ _ c.loop-m.invariant c.loop-m-test.false)
