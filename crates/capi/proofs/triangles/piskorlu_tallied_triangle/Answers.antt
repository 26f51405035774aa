use Rattle.std.proofs.Common.{rules, refl}
use Rattle.capi.proofs.Lent.{tally_answered, no_room, none, unwritten}
use Rattle.capi.specs.Tallies as tallies
use Rattle.capi.proofs.triangles.piskorlu_tallied_triangle.Goals as goal

pub returns : goal.returns
returns c =
    tally_answered _ _ _ _ _ _ _ _ _ _ c.tallied_solve-s.ensures
    _ _ _ _ _ _ c.leave.ensures c.in-Some-first_chunk_mut.ensures.cases.enough c.in-Some-first_chunk_mut.ensures.cases.same c.in-Some-first_mut-2.ensures.item.3.0 (search rules)
    _ _ _ _ _ _ c.keep.ensures c.in-Some.ensures.cases.enough c.in-Some.ensures.cases.same c.in-Some-first_mut.ensures.item.3.0 (search rules) c.read-held.ensures

pub returns-in_default-first_mut-2 : goal.returns-in_default-first_mut-2
unfolding tallies.reply
returns-in_default-first_mut-2 c =
    let p = unwritten 10 _ _ c.in-Some.ensures.cases.same in
    let q = unwritten 8 _ _ c.in-Some-first_chunk_mut.ensures.cases.same in
    let r = none c.args.tally_residual.now c.in-Some-first_mut.tally_residual.now c.in-Some-first_mut.tally_residual.now c.in-Some-first_mut.ensures.item.3.0 (search rules) refl in
    rw (no_room c.args.tally.now c.args.tally_residual.now c.args.counts.now c.args.residual.now (search rules)) (search (p, q, r, rules))
