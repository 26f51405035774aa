-- The byte that stands for a state in a list. Definitions only.
use Rattle.std.specs.Prelude.{ℕ}
use Rattle.box_rows.specs.declared.RowState.{RowState}
use Rattle.box_rows.specs.declared.RowState.TheVariants.{Inside, AtLo, AtHi, Idle}

abbrev pub byte : RowState → ℕ
byte Inside = 0
byte AtLo = 1
byte AtHi = 2
byte Idle = 3
