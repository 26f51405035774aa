use Rattle.printer.proofs.Lengths.{Counted, refused-short, solved-short, infeasible-short}
use Rattle.answer.proofs.Laws.{front-words, front-few}
use native.Mathlib.Omega.{arith}
use borrow.Author.Rules.{rules}
use Rattle.answer.proofs.print.Goals as goal

pub returns-in-Err : goal.returns-in-Err
returns-in-Err c = rw (c.in-Err.is, ← c.from.ensures) (record { wrote = c.refused.ensures; short = refused-short _ (record { below = search rules }) })

pub returns-in-Solved : goal.returns-in-Solved
returns-in-Solved c = let told = c.in-Solved in
    rw (c.in-Ok.is, told.is) (record { wrote = c.solved.ensures; short = solved-short _ _ _ (record { sweeps = record { below = search rules }; passes = record { below = search rules }; idle = record { below = search rules } }) c.requires.0 })

pub returns-in-Infeasible : goal.returns-in-Infeasible
returns-in-Infeasible c = let told = c.in-Infeasible in
    let counted : Counted told.report = record { sweeps = record { below = search rules }; passes = record { below = search rules }; idle = record { below = search rules } } in
    let few = front-few told.count c.args.rows.now c.requires.1 in
    let words = front-words told.count c.args.rows.now λ i. record { below = omega (arith, c.type_inv.rows i) } in
    rw (c.in-Ok.is, told.is)
    (record {
      wrote = rw c.listed-fighting.ensures at c.infeasible.ensures;
      short = infeasible-short _ _ _ counted c.requires.0 _ _ few words;
    })
