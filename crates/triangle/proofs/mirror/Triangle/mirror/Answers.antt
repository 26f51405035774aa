use Rattle.loops.proofs.Common.{ℕ, ◌+◌, ◌*◌, ◌≡◌, arith}
use Rattle.loops.proofs.Parts.{parts-start, parts_again, parts_done}
use Rattle.triangle.specs.Triangle as triangle
use Rattle.triangle.proofs.Mirrored.{mirror-row-length}
use Rattle.triangle.proofs.mirror.Triangle.mirror.Goals as goal

pub loop-i-init : goal.loop-i-init
unfolding triangle.rows_mirrored
loop-i-init c = parts-start (triangle.mirror_row c.args.self.now.values.now c.args.self.now.n) c.args.self.now.n (mirror-row-length c.args.self.now.values.now c.args.self.now.n) _

pub loop-i-preserved : goal.loop-i-preserved
unfolding triangle.rows_mirrored
loop-i-preserved c =
    let n : ℕ = c.args.self.now.n in
    let q : (c.loop-i.i + 1) * n ≡ c.loop-i.i * n + n = omega arith in
    let p = parts_again (triangle.mirror_row c.args.self.now.values.now n) n (mirror-row-length c.args.self.now.values.now n) c.args.w.now c.loop-i.i c.loop-i.w c.row.new.out c.loop-i.invariant c.row.ensures in
    rw (← q) at p

pub returns : goal.returns
unfolding triangle.mirrored triangle.rows_mirrored
returns c = parts_done (triangle.mirror_row c.args.self.now.values.now c.args.self.now.n) c.args.self.now.n (mirror-row-length c.args.self.now.values.now c.args.self.now.n) _ c.loop-i.i c.loop-i.w c.requires (omega arith) (omega arith) c.loop-i.invariant
