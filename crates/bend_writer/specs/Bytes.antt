-- Numbers as bytes, the lowest byte first, and runs of f64s: what bend_file/specs/Little.antt reads. Definitions only.
use Rattle.std.specs.Prelude.{ℕ, ◌/◌, ◌%◌, List, [], ◌∷◌, ◌++◌, Float}
use Rattle.std.specs.Float.{binary64}
use Rattle.std.specs.Float.Ieee.{to_bits}

unfoldable pub bytes16 : ℕ → List ℕ
bytes16 x = x % 256 ∷ x / 256 % 256 ∷ []

unfoldable pub bytes32 : ℕ → List ℕ
bytes32 x = bytes16 x ++ bytes16 (x / 65536)

unfoldable pub bytes64 : ℕ → List ℕ
bytes64 x = bytes32 x ++ bytes32 (x / 4294967296)

-- the 8 bytes of an f64. There is one NaN, and its bits are 7FF8000000000000
unfoldable pub pattern : Float → List ℕ
pattern v = bytes64 (to_bits binary64 v)

unfoldable pub patterns : List Float → List ℕ
patterns [] = []
patterns (v ∷ l) = pattern v ++ patterns l
