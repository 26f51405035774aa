use native.Mathlib.Nat.{mod-le}
use Rattle.exact_pass.proofs.Periods.{rest-is}
use Rattle.exact_pass.proofs.cycles.Marked.remaining_after.Goals as goal

pub returns-then-same_trial : goal.returns-then-same_trial
returns-then-same_trial c = record { steps = rest-is _ _ _ _ (c.same_trial.ensures c.if-same_trial.true); fewer = mod-le _ _ }
