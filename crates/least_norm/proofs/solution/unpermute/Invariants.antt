use Rattle.std.proofs.Common.{◌≡◌}
use Rattle.least_norm.specs.Starts.{scattered}
use Rattle.least_norm.proofs.solution.unpermute.Given as goal

abbrev pub invariant-loop-p : goal.invariant-loop-p
invariant-loop-p l = scattered l.initial.x l.perm l.y ≡ scattered l.x l.p-iterator.a.rest.now l.p-iterator.b.rest.now
