-- A bool as a number: 1 or 0, and read back from 0 or any other number. Definitions only.
use Rattle.std.specs.Prelude.{ℕ, Bool, true, false, not, eqb}

abbrev pub flagged : ℕ → Bool
flagged k = not (eqb k 0)

abbrev pub flag : Bool → ℕ
flag true = 1
flag false = 0
