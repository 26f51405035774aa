use Rattle.std.proofs.Common.{◌≡◌, Err, sym, ◌∙◌}
use borrow.Author.Rules.{rules}
use Rattle.bend_file.proofs.Picked.{inside, room, reads_short, reads-refused, reads-past, reads-found}
use Rattle.bend_file.proofs.chain.read_step.Goals as goal

pub returns-then-not-is_roomy : goal.returns-then-not-is_roomy
returns-then-not-is_roomy c = reads_short _ _ _ (sym c.is_roomy.ensures ∙ c.if-not-is_roomy.true)

pub returns-in_err-values : goal.returns-in_err-values
returns-in_err-values c =
    let is : c.from_residual.result ≡ Err c.in_err-values.field-0.0 = search rules in
    rw is (reads-refused _ _ _ (sym c.is_roomy.ensures ∙ c.if-not-is_roomy.false) _ c.in_err-values.ensures)

pub returns-in_default : goal.returns-in_default
returns-in_default c = reads-past _ _ _ (sym c.is_roomy.ensures ∙ c.if-not-is_roomy.false) (search rules)

pub fill-requires-clause-inside : goal.fill-requires-clause-inside
fill-requires-clause-inside c = inside _ _ _ (rw c.in-Some.is at c.in_ok-values.ensures)

pub fill-requires-clause-room : goal.fill-requires-clause-room
fill-requires-clause-room c =
    let v = inside _ _ _ (rw c.in-Some.is at c.in_ok-values.ensures) in
    room _ _ _ (sym c.is_roomy.ensures ∙ c.if-not-is_roomy.false) v.small

pub returns : goal.returns
returns c = reads-found _ _ _ (sym c.is_roomy.ensures ∙ c.if-not-is_roomy.false) _ _ _ (rw c.in-Some.is at c.in_ok-values.ensures) c.fill.ensures.shape (search rules)
