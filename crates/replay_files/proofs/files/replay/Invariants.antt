use Rattle.std.proofs.Common.{◌≤◌}
use Rattle.replay_files.proofs.files.replay.Given as goal

abbrev pub invariant-loop-i : goal.invariant-loop-i
invariant-loop-i g l = (l.count ≤ l.i) × (l.differing ≤ l.i)
