use Rattle.std.proofs.Common.{◌≡◌, ◌++◌, ℕ, get_or, drop}
use Rattle.std.specs.Float.Ieee.{neg}
use Rattle.loops.specs.Loops.{tab}
use Rattle.floats.specs.Ops.{at}
use Rattle.exact_pass.proofs.system.right_hand_start.Given as goal

abbrev pub invariant-loop-i : goal.invariant-loop-i
invariant-loop-i l = l.rhs ≡ tab (λ (i : ℕ). neg (at l.u_free (get_or l.free.rows.now i 0))) l.i ++ drop l.i l.initial.rhs
