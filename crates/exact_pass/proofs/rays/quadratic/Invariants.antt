use Rattle.std.proofs.Common.{◌≡◌, length}
use Rattle.exact_pass.specs.Private as private
use Rattle.exact_pass.proofs.rays.quadratic.Given as goal

abbrev pub invariant-loop-row : goal.invariant-loop-row
invariant-loop-row l = l.q ≡ private.quadratic l.ray.motion.now.problem.now.w.now (length l.ray.motion.now.values.now) l.ray.motion.now.values.now l.ray.rows.now l.row-index
