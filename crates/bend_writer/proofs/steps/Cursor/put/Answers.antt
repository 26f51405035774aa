use Rattle.bend_writer.proofs.Laying.{copied}
use borrow.Author.Rules.{rules}
use mathlib.Core.Path.{refl}
use Rattle.bend_writer.proofs.steps.Cursor.put.Goals as goal

pub returns : goal.returns
returns g c =
    record {
      laid = copied _ _ _ _ _ _ c.copy_from_slice.ensures.after c.to_le_bytes.ensures c.requires.0 c.requires.1;
      at = refl;
      long = search rules;
      same = refl;
    }
