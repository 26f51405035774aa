use Rattle.std.proofs.Common.{◌≡◌, ◌++◌, drop}
use Rattle.triangle.specs.Triangle as triangle
use Rattle.triangle.proofs.mirror.Triangle.row.Given as goal

abbrev pub invariant-loop-j : goal.invariant-loop-j
invariant-loop-j l = (l.place ≡ triangle.place l.i l.j) × (l.out ≡ triangle.mirror_row l.self.values.now l.j l.i ++ drop l.j l.initial.out)
