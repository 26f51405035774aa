use Rattle.std.proofs.Common.{sym, ◌∙◌, arith}
use Rattle.loops.proofs.Gather.{gather-start, gather_take, gather_skip, gather_done}
use Rattle.boxed.proofs.Testing.{none_counted, some_counted}
use Rattle.boxed.specs.Private as private
use Rattle.boxed.proofs.growth.grown.Goals as goal
use Rattle.boxed.proofs.growth.grown.Goals.{then-abs-scale, else-abs-scale}

pub loop-i-init : goal.loop-i-init
loop-i-init c = (omega arith, gather-start _ _)

pub loop-i-preserved : goal.loop-i-preserved
unfolding private.is_grown
loop-i-preserved c = elim c.if-abs-scale.branch [
  | then-abs-scale w ↦ (omega arith, rw (w.rows-is, w.k-is) (gather_take _ _ _ _ _ c.loop-i.invariant.1 (rw (← c.abs.ensures) w.if-abs-scale.true)))
  | else-abs-scale w ↦ (omega arith, rw (w.rows-is, w.k-is) (gather_skip _ _ _ _ _ c.loop-i.invariant.1 (rw (← c.abs.ensures) w.if-abs-scale.false)))
]

pub returns-then-k-eq0 : goal.returns-then-k-eq0
unfolding private.is_grown
returns-then-k-eq0 c =
    let g = gather_done _ _ _ _ _ _ (omega arith) (omega arith) c.loop-i.invariant.1 in
    record { count = none_counted _ (sym g.count ∙ c.if-k-eq0.true); front = g.front }

pub returns-else-k-eq0 : goal.returns-else-k-eq0
unfolding private.is_grown
returns-else-k-eq0 c =
    let g = gather_done _ _ _ _ _ _ (omega arith) (omega arith) c.loop-i.invariant.1 in
    record { count = some_counted _ _ g.count c.if-k-eq0.false; front = g.front }
