use Rattle.std.proofs.Common.{sym}
use mathlib.Core.Path.{◌∙◌}
use Rattle.exact_pass.proofs.Stepping.{taken_unbounded, taken_released, taken_held, ratio_within}
use Rattle.exact_pass.proofs.steps.take_step.Goals as goal

pub returns-then-not-is_finite : goal.returns-then-not-is_finite
returns-then-not-is_finite c =
    taken_unbounded _ _ _ _ _ _ _ _ (rw c.longest.ensures at c.ratio_test-r.ensures) _ _ (sym c.is_finite.ensures ∙ c.if-not-is_finite.true) c.unbounded.ensures

pub hold-requires-clause-row : goal.hold-requires-clause-row
hold-requires-clause-row c =
    ratio_within _ _ _ _ _ _ _ _ _ c.ratio_test-r.ensures c.args.d.now.below c.in-Some.is

pub returns-in-None : goal.returns-in-None
returns-in-None c =
    taken_released _ _ _ _ _ _ _ _ (rw c.longest.ensures at c.ratio_test-r.ensures) (sym c.is_finite.ensures ∙ c.if-not-is_finite.false)
    _ _ _ c.in-None.is c.advance.ensures c.release.ensures

pub returns-in-Some : goal.returns-in-Some
returns-in-Some c =
    taken_held _ _ _ _ _ _ _ _ (rw c.longest.ensures at c.ratio_test-r.ensures) (sym c.is_finite.ensures ∙ c.if-not-is_finite.false)
    _ _ _ _ c.in-Some.is c.advance.ensures c.hold.ensures
