use Rattle.std.proofs.Common.{◌≡◌, length}
use Rattle.exact_pass.specs.Private as private
use Rattle.exact_pass.proofs.system.bound_column.Given as goal

abbrev pub invariant-loop-i : goal.invariant-loop-i
invariant-loop-i l = l.rhs ≡ private.column_taken l.free.trial.problem.now.w.now (length l.free.trial.problem.now.u_free.now) l.free.rows.now l.j l.v l.i l.initial.rhs
