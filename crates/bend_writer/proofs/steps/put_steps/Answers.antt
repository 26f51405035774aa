use mathlib.Core.Path.{refl, ◌∙◌}
use borrow.Author.Rules.{rules}
use Rattle.bend_writer.proofs.Passes.{sizes_start, size-own, size-fits, sizes_again, sizes_done}
use Rattle.bend_writer.proofs.steps.put_steps.Goals as goal

pub loop-step-init : goal.loop-step-init
loop-step-init c = (sizes_start _ _ _, refl, refl)

pub split_at-requires : goal.split_at-requires
split_at-requires c = size-own _ _ _ _ _ _ _ c.requires c.loop-step-test.true c.loop-step.invariant.0

pub put_step-requires : goal.put_step-requires
put_step-requires c =
    rw c.split_at.ensures.front
    (size-fits _ _ _ _ _ _ _ c.requires c.loop-step-test.true c.loop-step.invariant.0 c.loop-step.invariant.1)

pub loop-step-preserved : goal.loop-step-preserved
loop-step-preserved c =
    let put = c.put_step.ensures in (
      rw (put.at, c.split_at.ensures.back)
          (sizes_again _ _ _ _ _ _ _ c.requires c.loop-step-test.true c.loop-step.invariant.0 _ (rw c.split_at.ensures.front at put.laid)),
      put.long ∙ c.loop-step.invariant.1,
      put.same ∙ c.loop-step.invariant.2,
    )

pub returns : goal.returns
returns c =
    let p = sizes_done _ _ _ _ _ _ _ c.requires c.loop-step.invariant.0 c.loop-step.auto.step-index-end c.loop-step-test.false in
    let same = c.loop-step.invariant.2 in
    search rules
