use Rattle.std.proofs.Common.{◌≡◌}
use Rattle.least_norm.specs.Blocks.{products}
use Rattle.least_norm.proofs.columns.add_products.Given as goal

abbrev pub invariant-loop-row : goal.invariant-loop-row
invariant-loop-row g l = l.s ≡ products l.a.entries.now l.a.size.n l.c g.row.K l.h.v.now l.initial.s l.h.rest l.row
