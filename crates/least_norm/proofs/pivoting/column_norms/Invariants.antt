use Rattle.std.proofs.Common.{◌≡◌, replicate}
use Rattle.floats.specs.Ops.{0ᶠ}
use Rattle.least_norm.specs.Blocks.{squares}
use Rattle.least_norm.proofs.pivoting.column_norms.Given as goal

abbrev pub invariant-loop-row : goal.invariant-loop-row
invariant-loop-row g l = l.s ≡ squares l.a.entries.now l.a.size.n l.c g.row.K (replicate g.row.K 0ᶠ) l.j l.row
