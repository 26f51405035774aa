use mathlib.Core.Path.{sym, ◌∙◌}
use Rattle.capi_chains.proofs.ChainWriter.{not_taken, answered}
use Rattle.capi_chains.proofs.chain_writer.piskorlu_chain_write.Goals as goal

pub returns-then-not-taken : goal.returns-then-not-taken
returns-then-not-taken c = rw c.from.ensures (not_taken _ _ _ _ (sym c.taken.ensures ∙ c.if-not-taken.true))

pub returns-in-Err : goal.returns-in-Err
returns-in-Err c =
    rw c.from-in-Err.ensures (answered _ _ _ _ (sym c.taken.ensures ∙ c.if-not-taken.false) _ _ (rw c.in-Err.is at c.write_steps.ensures))

pub returns-in-Ok : goal.returns-in-Ok
returns-in-Ok c = answered _ _ _ _ (sym c.taken.ensures ∙ c.if-not-taken.false) _ _ (rw c.in-Ok.is at c.write_steps.ensures)
