use Rattle.std.proofs.Common.{◌≡◌, length}
use Rattle.exact_pass.specs.Pass as pass
use Rattle.exact_pass.proofs.ratio.ratio_test.Given as goal

abbrev pub invariant-loop-row : goal.invariant-loop-row
invariant-loop-row l = l.r ≡ pass.ratio_test l.d.problem.now.lo.now l.d.problem.now.hi.now l.d.rows.now l.nu l.d.y.now l.alpha (length l.yielded)
