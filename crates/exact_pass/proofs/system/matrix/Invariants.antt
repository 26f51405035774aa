use Rattle.std.proofs.Common.{◌≡◌, ◌*◌, ◌++◌, length, drop}
use Rattle.exact_pass.specs.Pass as pass
use Rattle.exact_pass.proofs.system.matrix.Given as goal

abbrev pub invariant-loop-i : goal.invariant-loop-i
invariant-loop-i l = l.m ≡ pass.matrix l.free.trial.problem.now.w.now l.free.trial.problem.now.scale.now l.free.rows.now l.i ++ drop (l.i * length l.free.rows.now) l.initial.m
