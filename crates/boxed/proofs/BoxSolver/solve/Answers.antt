use Rattle.std.proofs.Common.{sym}
use Rattle.std.proofs.lemmas.Result.{err_from_is_err_and}
use Rattle.boxed.proofs.Accepting.{accepted, lent}
use Rattle.boxed.proofs.Solving.{is-refused, is-solved}
use lib.Seq.{length-take-le}
use Rattle.boxed.proofs.BoxSolver.solve.Goals as goal

pub returns-in_err-refusal : goal.returns-in_err-refusal
returns-in_err-refusal c = let p = err_from_is_err_and c.from_residual.result c.from_residual.ensures.1 in
    rw (p.1, p.2) (is-refused _ _ _ _ _ _ _ c.in_err-refusal.ensures _)

pub slice_bounds-solve_rows-end : goal.slice_bounds-solve_rows-end
slice_bounds-solve_rows-end c = (accepted _ _ _ _ _ _ (sym c.in_ok-refusal.ensures)).states

pub slice_bounds-solve_rows-end-2 : goal.slice_bounds-solve_rows-end-2
slice_bounds-solve_rows-end-2 c = sym (length-take-le _ _ (accepted _ _ _ _ _ _ (sym c.in_ok-refusal.ensures)).states)

pub solve_rows-requires : goal.solve_rows-requires
solve_rows-requires c = lent _ _ _ _ _ _ (sym c.in_ok-refusal.ensures)

pub returns : goal.returns
returns c = is-solved _ _ _ _ _ _ c.in_ok-refusal.ensures _ _ _ _ _ _ c.solve_rows.ensures

pub invariant_of-p : goal.invariant_of-p
invariant_of-p c = record { sized = (accepted _ _ _ _ _ _ (sym c.in_ok-refusal.ensures)).sized }
