use Rattle.boxed.proofs.Checks.{attempt-found, attempt-failed, attempt-infeasible}
use Rattle.boxed.proofs.checkpoints.attempt.Goals as goal
use Rattle.boxed.proofs.checkpoints.attempt.Goals.{in-Failed, in-Infeasible}

pub returns-in-Found : goal.returns-in-Found
returns-in-Found c = attempt-found _ c.args.p.now.sized _ _ _ _ c.requires _ c.store.ensures _ _ _ _ _ c.pass_of.ensures c.in-Found.is

pub returns : goal.returns
returns c = λ n. elim c.match-pass_of.branch [
  | in-Failed w ↦ rw w.ended-is (attempt-failed _ c.args.p.now.sized _ _ _ _ c.requires _ c.store.ensures _ _ _ _ _ c.pass_of.ensures _ c.store-2.ensures n w.in-Failed.is)
  | in-Infeasible w ↦ rw w.ended-is (attempt-infeasible _ c.args.p.now.sized _ _ _ _ c.requires _ c.store.ensures _ _ _ _ _ c.pass_of.ensures _ c.store-2.ensures n _ w.in-Infeasible.is)
]
