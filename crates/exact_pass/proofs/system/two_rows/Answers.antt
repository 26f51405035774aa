use Rattle.exact_pass.specs.Pass as pass
use Rattle.exact_pass.specs.Private as private
use Rattle.exact_pass.proofs.system.two_rows.Goals as goal

pub returns : goal.returns
unfolding pass.residual private.residual_row
returns c =
    let r = c.residual_rows-r.ensures in
    let a = c.row-first.ensures.row in
    let b = c.row-second.ensures.row in
    let n = c.args.s.now.free.now.trial.problem.now.sized.4 in
    record { downhill = rw (r.first, r.second, a, b, n); inconsistent = rw (c.too_large.ensures, c.too_large-2.ensures, r.first, r.second, a, b, n) }
