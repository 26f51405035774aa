use mathlib.Core.Path.{sym}
use Rattle.printer.proofs.Lengths.{refused-short}
use Rattle.answer.proofs.Laws.{too_little, answered, refused-file, taken_in}
use borrow.Author.Rules.{rules}
use Rattle.answer.proofs.of_file.Goals as goal

pub returns-then-out-lt-ROOM : goal.returns-then-out-lt-ROOM
returns-then-out-lt-ROOM c = too_little _ _ c.if-out-lt-ROOM.true

pub solve-requires : goal.solve-requires
solve-requires c = (taken_in _ _ _ _ (rw c.in-Ok.is at c.read-shape.ensures)).small

pub returns-in-Err : goal.returns-in-Err
returns-in-Err c = answered _ _ _ _ _ c.if-out-lt-ROOM.false (record {
  wrote = c.refused.ensures;
  short = refused-short _ (record { below = search rules });
}) (rw c.from.ensures (sym (refused-file _ _ _ _ (rw c.in-Err.is at c.read-shape.ensures))))

pub returns-in-Ok : goal.returns-in-Ok
returns-in-Ok c = answered _ _ _ _ _ c.if-out-lt-ROOM.false c.solve.ensures (taken_in _ _ _ _ (rw c.in-Ok.is at c.read-shape.ensures)).same
