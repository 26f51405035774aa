use borrow.Author.Rules.{rules}
use Rattle.least_norm.proofs.Runs.{reduced-from, reduced_again, reduced-ended}
use Rattle.least_norm.proofs.reduce_columns.Goals as goal

pub loop-j-init : goal.loop-j-init
loop-j-init c = search (reduced-from, rules)

pub returns-then-not-reduce : goal.returns-then-not-reduce
returns-then-not-reduce c = reduced-ended _ _ _ _ _ _ _ c.reduce.result c.reduce.ensures c.loop-j.invariant _
    c.if-not-reduce.true c.loop-j-test.true

pub loop-j-preserved : goal.loop-j-preserved
loop-j-preserved c = reduced_again _ _ _ _ _ _ _ c.reduce.result c.reduce.ensures c.loop-j.invariant c.if-not-reduce.false
