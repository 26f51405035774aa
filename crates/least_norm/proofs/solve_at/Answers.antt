use Prim.Native.Nat.{◌*◌}
use native.Mathlib.Omega.{arith}
use borrow.Author.Rules.{rules}
use Rattle.loops.proofs.Index.{product}
use Rattle.least_norm.proofs.Runs.{solved-none, past-front}
use Rattle.least_norm.proofs.solve_at.Goals as goal

pub returns-then-rank-eq0 : goal.returns-then-rank-eq0
returns-then-rank-eq0 c = search (solved-none, rules)

pub returns : goal.returns
returns c =
    let size = c.args.size in
    let fit = product c.args.rank size.n (omega arith) size.columns in
    (c.solve_ranked.ensures, past-front _ c.solve_ranked.new.right (c.args.rank * size.n) 1056 c.solve_ranked.auto.right (omega arith) (omega arith))
