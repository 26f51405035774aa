use Rattle.std.proofs.Common.{◌≡◌}
use Rattle.least_norm.specs.Blocks.{less_rows}
use Rattle.least_norm.proofs.columns.less_rows.Given as goal

abbrev pub invariant-loop-row : goal.invariant-loop-row
invariant-loop-row g l = l.a ≡ less_rows l.size.n l.c g.row.K l.h.v.now l.f l.initial.a l.h.first l.row
