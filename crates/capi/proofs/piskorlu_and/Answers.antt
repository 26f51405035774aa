use Rattle.std.proofs.Common.{rules, sym}
use Rattle.capi.proofs.Lent.{read_of, joined_answered}
use Rattle.capi.proofs.piskorlu_and.Goals as goal

pub returns : goal.returns
returns c =
    let a = read_of _ _ _ _ c.in-Some-Some.ensures.cases.enough c.in-Some-Some.ensures.cases.same c.read.ensures in
    let b = read_of _ _ _ _ c.in-Some-Some.ensures'.cases.enough c.in-Some-Some.ensures'.cases.same c.read-2.ensures in
    rw (sym a, sym b, sym c.and-joined.ensures)
    (joined_answered _ _ _ _ _ _ _ _ c.leave.ensures c.in-Some.ensures.cases.enough c.in-Some.ensures.cases.same
    c.in-Some-first_mut.ensures.item.3.0 (search rules) _ _ c.in-Some-Some.ensures.cases.enough c.in-Some-Some.ensures'.cases.enough)
