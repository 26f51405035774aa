use Rattle.std.proofs.Common.{sym, ◌∙◌}
use Rattle.tallied.proofs.Entering.{on_full, on_room}
use Rattle.tallied.proofs.tallied_solve.Goals as goal

pub returns-then-full : goal.returns-then-full
returns-then-full c = on_full _ _ (sym c.full.ensures ∙ c.if-full.true) _ c.refusal-refused.ensures _ c.and.ensures _

pub returns : goal.returns
returns c = on_room _ _ (sym c.full.ensures ∙ c.if-full.false) _ _ _ _ _ _ _ c.solve-answer.ensures
    (rw (← c.no_nan-none.ensures) c.joined_by.ensures)
