use Rattle.std.proofs.Common.{◌≡◌, length}
use Rattle.exact_pass.specs.Pass as pass
use Rattle.exact_pass.proofs.steps.scatter.Given as goal

abbrev pub invariant-loop-row : goal.invariant-loop-row
invariant-loop-row l = l.all ≡ pass.scattered l.d.rows.now l.d.y.now l.initial.all (length l.yielded)
