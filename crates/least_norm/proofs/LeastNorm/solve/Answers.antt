use Rattle.std.proofs.Common.{arith, true, length, ◌≡◌}
use borrow.Author.Rules.{rules}
use Rattle.least_norm.specs.Promise as promise
use Rattle.least_norm.proofs.Runs.{answer}
use Rattle.least_norm.proofs.Single.{one_by_one, whole-one}
use Rattle.least_norm.proofs.LeastNorm.solve.Goals as goal

pub solve-requires : goal.solve-requires
solve-requires c = grind (arith, one_by_one)

pub returns-then-a-eq1 : goal.returns-then-a-eq1
unfolding promise.reply
returns-then-a-eq1 c = search (whole-one, rules)

pub returns : goal.returns
returns c =
    let q : promise.fits c.args.m c.args.n c.args.a.now c.args.b.now c.args.x.now (length c.args.workspace.now) ≡ true = search rules in
    answer _ _ _ _ _ _ _ _ _ _ _ _ c.least_norm.ensures.0 c.least_norm.ensures.1 c.least_norm.ensures.2 q
