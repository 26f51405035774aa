use Rattle.std.proofs.Common.{◌≡◌, ℕ, ◌+◌, ◌*◌}
use Rattle.std.specs.Float.{nan}
use lib.Ieee.{Float}
use Rattle.loops.specs.Updates.{updated}
use Rattle.floats.specs.Ops.{at}
use Rattle.least_norm.proofs.trapezoid.keep_row.Given as goal

abbrev pub invariant-loop-c : goal.invariant-loop-c
invariant-loop-c l =
    l.right ≡ updated nan (λ (c : ℕ). l.i * l.t.size.n + c) (λ (c : ℕ) (x : Float). at l.t.entries.now (l.i * l.t.size.n + c)) l.t.size.m l.c l.initial.right
