use native.Mathlib.Omega.{arith}
use borrow.Author.Rules.{rules}
use Rattle.least_norm.proofs.Runs.{find-run}
use Rattle.least_norm.proofs.pivoting.find_pivot.Goals as goal

pub returns : goal.returns
returns c = (search (find-run, rules), omega arith)
