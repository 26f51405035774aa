use Rattle.std.proofs.Common.{refl, sym, length}
use borrow.Author.Tests.{eqb-true, eqb-false}
use mathlib.Core.Path.{◌∙◌}
use Rattle.exact_pass.specs.Pass.{free_rows}
use Rattle.exact_pass.proofs.Rows.{free_below}
use Rattle.exact_pass.proofs.Stepping.{part_is, step_released, step_free}
use Rattle.exact_pass.proofs.steps.step.Goals as goal

pub of_free_rows-inconsistent-requires-clause-below : goal.of_free_rows-inconsistent-requires-clause-below
of_free_rows-inconsistent-requires-clause-below c = rw (c.as_slice-free.ensures.value, c.free_rows-list.ensures, c.requires.states) (free_below _ _)

pub invariant_of-d-clause-below : goal.invariant_of-d-clause-below
invariant_of-d-clause-below c = rw (c.as_slice-free.ensures.value, c.free_rows-list.ensures, c.requires.states) (free_below _ _)

pub returns-then-is_empty : goal.returns-then-is_empty
returns-then-is_empty c =
    let free = rw (c.as_slice-free.ensures.value, c.free_rows-list.ensures, c.requires.states) at (sym c.is_empty.ensures ∙ c.if-is_empty.true) in
    record { passed = step_released _ _ _ _ _ _ _ _ (eqb-true _ _ free) (c.release.ensures _); workspace = refl }

pub returns : goal.returns
returns c =
    let rows = c.as_slice-free.ensures.value ∙ c.free_rows-list.ensures in
    let free = rw (rows, c.requires.states) at (sym c.is_empty.ensures ∙ c.if-is_empty.false) in
    step_free _ _ _ _ _ _ _ _ (eqb-false _ _ free) _ _ _ _ (rw (rows, c.requires.states) at c.of_free_rows-inconsistent.ensures)
    (part_is 1056 (length (free_rows c.args.states.now (length c.args.p.now.u_free.now))) c.of_free_rows-inconsistent.new.work)
    (rw (rows, c.requires.states) at c.take_step.ensures)
