use Rattle.std.proofs.lemmas.Result.{err_from_is_err_and}
use Rattle.triangle.proofs.Refusing.{fits, refused, taken}
use Rattle.triangle.proofs.solve.Goals as goal

pub returns-in_err-t : goal.returns-in_err-t
returns-in_err-t c = let p = err_from_is_err_and c.from_residual.result c.from_residual.ensures.1 in
    rw (p.1, p.2) (refused _ _ _ _ _ _ _ _ c.in_err-t.ensures.refused _)

pub returns-then-t-le8 : goal.returns-then-t-le8
returns-then-t-le8 c = taken _ _ _ _ _ _ _ (fits _ _ _ c.in_ok-t.ensures.refused).1 _ _ _ _ _ _ (rw c.in_ok-t.ensures.triangle.0 at c.solve_in.ensures)

pub returns : goal.returns
returns c = taken _ _ _ _ _ _ _ (fits _ _ _ c.in_ok-t.ensures.refused).1 _ _ _ _ _ _ (rw c.in_ok-t.ensures.triangle.0 at c.solve_in-2.ensures)
