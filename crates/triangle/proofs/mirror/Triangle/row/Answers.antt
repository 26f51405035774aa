use Rattle.std.proofs.Common.{◌∙◌, arith}
use Rattle.loops.proofs.Fill.{tab-start, tab_again}
use Rattle.triangle.specs.Triangle as triangle
use Rattle.triangle.proofs.Mirrored.{place-start, place-within, place-few}
use Rattle.triangle.proofs.mirror.Triangle.row.Goals as goal

pub loop-j-init : goal.loop-j-init
unfolding triangle.mirror_row
loop-j-init c = (c.row_start-place.ensures ∙ place-start _, tab-start _ _)

pub offset_bounds-self-place : goal.offset_bounds-self-place
offset_bounds-self-place c =
    omega (arith, place-few c.args.i c.loop-j.j (omega (arith, c.requires, c.args.self.now.few)) (omega (arith, c.loop-j-test.true, c.args.self.now.few)), c.loop-j.invariant.0)

pub bounds-self-place : goal.bounds-self-place
bounds-self-place c = place-within c.args.self.now.n c.args.i c.loop-j.j _ _ c.args.self.now.long c.requires.inside (omega (arith, c.loop-j-test.true, c.requires.long)) c.loop-j.invariant.0

pub loop-j-preserved : goal.loop-j-preserved
unfolding triangle.mirror_row
loop-j-preserved c = (
  c.next-place.ensures,
  rw c.loop-j.invariant.0 (tab_again _ _ _ _ c.loop-j.invariant.1 c.loop-j.auto.out (omega (arith, c.requires.long))),
)
