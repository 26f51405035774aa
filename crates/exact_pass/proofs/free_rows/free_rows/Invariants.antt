use Rattle.std.proofs.Common.{◌≡◌}
use Rattle.exact_pass.specs.Pass as pass
use Rattle.exact_pass.proofs.free_rows.free_rows.Given as goal

abbrev pub invariant-loop-i : goal.invariant-loop-i
invariant-loop-i l = l.free.items ≡ pass.free_rows l.states l.i
