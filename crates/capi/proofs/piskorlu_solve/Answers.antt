use Rattle.std.proofs.Common.{rules}
use Rattle.capi.proofs.Lent.{solve_answered}
use Rattle.capi.proofs.piskorlu_solve.Goals as goal

pub returns : goal.returns
returns c =
    solve_answered _ _ _ _ _ _ _ _ c.solve-answer.ensures _ _ _ _ _ _ c.leave.ensures c.in-Some.ensures.cases.enough c.in-Some.ensures.cases.same
    c.in-Some-first_mut.ensures.item.3.0 (search rules) _ _ _
