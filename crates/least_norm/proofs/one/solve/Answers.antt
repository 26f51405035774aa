use borrow.Author.Rules.{rules}
use Rattle.least_norm.proofs.Single.{none_left, full-left, rank_left}
use Rattle.least_norm.proofs.one.solve.Goals as goal

pub returns-then-alpha : goal.returns-then-alpha
returns-then-alpha c = search (none_left, rules)

pub returns-then-size : goal.returns-then-size
returns-then-size c = search (full-left, rules)

pub returns : goal.returns
returns c = search (rank_left, rules)
