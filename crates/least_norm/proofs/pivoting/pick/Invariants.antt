use Rattle.std.proofs.Common.{◌≡◌, ◌-◌, ◌≤◌, ◌<◌}
use Rattle.loops.specs.Loops.{between}
use Rattle.least_norm.specs.Private.{better}
use Rattle.least_norm.proofs.pivoting.pick.Given as goal

abbrev pub invariant-loop-next : goal.invariant-loop-next
invariant-loop-next g l =
    (l.fn.from.next ≤ l.next) × (l.next ≤ l.a.size.n) × (l.best.col < l.next) × (l.best ≡ between l.fn.from.next l.next l.fn.from.best (better l.a.entries.now l.a.size.m l.a.size.n l.j))

abbrev pub decreases-loop-next : goal.decreases-loop-next
decreases-loop-next g l = l.a.size.n - l.next
