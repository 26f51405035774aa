use borrow.Author.Rules.{rules}
use Rattle.least_norm.proofs.Rows.{row-length, row_norm-run}
use Rattle.least_norm.proofs.trapezoid.row_norm2.Goals as goal

pub dot-requires : goal.dot-requires
dot-requires c = search (row-length, rules)

pub returns : goal.returns
returns c =
    row_norm-run _ _ _ _ c.requires.1 c.args.t.now.holds _ c.row-row.ensures _ _ _ c.dot.ensures c.requires.0
