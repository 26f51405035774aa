use borrow.Author.Rules.{rules}
use Rattle.least_norm.proofs.Runs.{reduce-ended, reduce-run}
use Rattle.least_norm.proofs.reduce.Goals as goal

pub returns-then-p : goal.returns-then-p
returns-then-p c = search (reduce-ended, rules)

pub returns : goal.returns
returns c = reduce-run _ _ _ _ _ _ _ _ _ _ _ c.eliminate.ensures c.bring.ensures c.if-p.false c.find_pivot-p.ensures.0
