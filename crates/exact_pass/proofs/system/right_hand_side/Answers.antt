use Rattle.std.proofs.Common.{arith}
use Rattle.exact_pass.proofs.Systems.{columns_done}
use Rattle.exact_pass.proofs.system.right_hand_side.Goals as goal

pub returns : goal.returns
returns c = columns_done _ _ _ _ _ _ _ _ (omega arith) (omega arith) c.loop-j.invariant
