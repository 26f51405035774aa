use Rattle.std.proofs.Common.{ap}
use Rattle.loops.proofs.Common.{ℕ, ◌+◌, ◌-◌, ◌*◌, ◌≡◌, ◌∙◌, length, arith}
use Rattle.box_rows.proofs.Matrix.{row_fits, row-part, row-length}
use Rattle.box_rows.proofs.problem.ProblemRow.entries.Goals as goal

pub returns : goal.returns
returns c =
    let p = c.args.self.now.problem.now in
    let n : ℕ = length p.u_free.now in
    let i = c.args.self.now.i in
    let q : (i + 1) * n - i * n ≡ n = omega arith in
    let e = row-part _ _ _ (row_fits p.w.now _ _ p.sized.1 c.args.self.now.inside) in
    record { row = rw (c.n-n.ensures, q) e; long = rw (c.n-n.ensures, q) (ap length e ∙ row-length _ n _) }
