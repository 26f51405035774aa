use borrow.Author.Rules.{rules}
use Rattle.least_norm.proofs.Rows.{row-length, known-run}
use Rattle.least_norm.proofs.solution.known.Goals as goal

pub less_dot-requires : goal.less_dot-requires
less_dot-requires c = search (row-length, rules)

pub returns : goal.returns
returns c =
    known-run _ _ _ _ c.requires.1 c.args.t.now.holds _ c.row.ensures _ _ _ _ c.less_dot.ensures c.requires.1
    c.requires.0.0
