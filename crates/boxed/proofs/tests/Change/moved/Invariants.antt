use Rattle.std.proofs.Common.{◌≡◌, ◌≤◌, ◌*◌, drop, length}
use Rattle.boxed.specs.Sweep as sweep
use Rattle.boxed.proofs.tests.Change.moved.Given as goal

-- as many rows were read as there were turns, and what is left follows them
abbrev pub invariant-loop-row : goal.invariant-loop-row
invariant-loop-row l = record {
  size : l.row-iterator.size ≡ length l.self.nu.now;
  within : length l.yielded * length l.self.nu.now ≤ length l.motion;
  left : l.row-iterator.rest.now ≡ drop (length l.yielded * length l.self.nu.now) l.motion;
  worst : l.worst ≡ sweep.moved l.motion l.self.nu.now l.self.before.now (length l.yielded);
}
