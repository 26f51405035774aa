use Rattle.bend_writer.specs.Bytes.{bytes16, bytes32}
use mathlib.Core.Path.{refl, ◌∙◌}
use Rattle.bend_writer.specs.Steps as def
use Rattle.bend_writer.proofs.Laying.{after, reading_put, low16, low32, mark-bytes}
use Rattle.bend_writer.proofs.steps.Cursor.put_trailer.Goals as goal

pub returns : goal.returns
unfolding def.trailer bytes32 bytes16
returns c =
    let s = c.args.step in
    let a = reading_put c.put.ensures (low32 4) in
    let b = reading_put c.put-2.ensures (low16 s.rows) in
    let d = reading_put c.put-3.ensures (low16 s.coords) in
    let e = reading_put c.put-4.ensures (low32 s.count) in
    let m = reading_put c.put-5.ensures (low32 0x444E4542 ∙ mark-bytes) in
    after (after (after (after a b refl) d refl) e refl) m refl
