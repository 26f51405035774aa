-- The problem of lists that are lent. Definitions only.
use Rattle.box_rows.specs.Rows.{Problem, problem}
use Rattle.box_rows.specs.declared.problem.BoxProblem.{BoxProblem}

abbrev pub of : BoxProblem → Problem
of p = problem p.w.now p.u_free.now p.lo.now p.hi.now p.scale.now
