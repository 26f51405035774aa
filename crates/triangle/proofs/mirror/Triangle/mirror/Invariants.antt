use Rattle.std.proofs.Common.{◌≡◌, ◌++◌, ◌*◌, drop}
use Rattle.triangle.specs.Triangle as triangle
use Rattle.triangle.proofs.mirror.Triangle.mirror.Given as goal

abbrev pub invariant-loop-i : goal.invariant-loop-i
invariant-loop-i l = l.w ≡ triangle.rows_mirrored l.self.values.now l.self.n l.i ++ drop (l.i * l.self.n) l.initial.w
