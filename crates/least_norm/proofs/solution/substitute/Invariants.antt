use Rattle.std.proofs.Common.{◌≡◌}
use Rattle.least_norm.specs.Starts.{substituted}
use Rattle.least_norm.proofs.solution.substitute.Given as goal

abbrev pub invariant-loop-i : goal.invariant-loop-i
invariant-loop-i l = l.y ≡ substituted l.initial.y l.t.size.n l.t.size.m l.t.entries.now l.b l.i
