-- Two floats are one value where they have the same bits.
use mathlib.Core.Path.{◌≡◌, sym, ap, ◌∙◌}
use mathlib.Core.Bool.{true}
use lib.Ieee.{Float, fits, binary64, of_bits, to_bits}
use lib.Ieee.Bits.{of_bits-to_bits}

-- values of the format with the same bits
pub same_bits : (x y : Float) → fits binary64 x ≡ true → fits binary64 y ≡ true → to_bits binary64 x ≡ to_bits binary64 y → x ≡ y
same_bits x y g h e = sym (of_bits-to_bits binary64 x (rw g tt)) ∙ ap (of_bits binary64) e ∙ of_bits-to_bits binary64 y (rw h tt)
