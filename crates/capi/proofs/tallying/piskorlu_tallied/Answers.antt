use Rattle.std.proofs.Common.{rules}
use Rattle.capi.proofs.Lent.{tally_answered}
use Rattle.capi.proofs.tallying.piskorlu_tallied.Goals as goal

pub returns : goal.returns
returns c =
    tally_answered _ _ _ _ _ _ _ _ _ _ c.tallied_solve-s.ensures
    _ _ _ _ _ _ c.leave.ensures c.in-Some-first_chunk_mut.ensures.cases.enough c.in-Some-first_chunk_mut.ensures.cases.same c.in-Some-first_mut-2.ensures.item.3.0 (search rules)
    _ _ _ _ _ _ c.keep.ensures c.in-Some.ensures.cases.enough c.in-Some.ensures.cases.same c.in-Some-first_mut.ensures.item.3.0 (search rules) c.read-held.ensures
