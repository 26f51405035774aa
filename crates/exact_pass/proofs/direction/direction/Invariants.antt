use Rattle.std.proofs.Common.{◌≡◌, ◌++◌, drop}
use Rattle.exact_pass.specs.Private as private
use Rattle.exact_pass.proofs.direction.direction.Given as goal

abbrev pub invariant-loop-i : goal.invariant-loop-i
invariant-loop-i l = l.y ≡ private.to_target l.trial.problem.now.scale.now l.s.free.now.rows.now l.s.z.now l.trial.values.now l.i ++ drop l.i l.initial.y
