use Rattle.loops.proofs.Same.{take-replicate}
use Rattle.exact_pass.proofs.Stepping.{unbounded_failed, unbounded_ray}
use Rattle.exact_pass.proofs.steps.unbounded.Goals as goal

pub returns-in-Some : goal.returns-in-Some
returns-in-Some c =
    let few = c.args.d.now.problem.now.sized.0 in
    unbounded_ray _ _ _ _ _ _ _ (rw (c.n.ensures, take-replicate _ 32 _ few) at c.scatter.ensures) _ c.in-Some.ensures

pub returns-in-None : goal.returns-in-None
returns-in-None c =
    let few = c.args.d.now.problem.now.sized.0 in
    unbounded_failed _ _ _ _ _ _ _ (rw (c.n.ensures, take-replicate _ 32 _ few) at c.scatter.ensures) c.in-None.ensures
