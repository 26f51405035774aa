use Rattle.std.proofs.Common.{◌≡◌, length}
use Rattle.exact_pass.proofs.Systems.{columns}
use Rattle.exact_pass.proofs.system.right_hand_side.Given as goal

abbrev pub invariant-loop-j : goal.invariant-loop-j
invariant-loop-j l = l.rhs ≡ columns l.free.trial.problem.now.w.now l.free.trial.problem.now.u_free.now l.states l.free.trial.values.now l.free.rows.now (length l.free.rows.now) l.j
