-- An infinity, as code has it: a quotient of constants.
use mathlib.Core.Path.{◌≡◌, refl}
use lib.Ieee.{of_bits, div, neg}
use Rattle.floats.specs.Ops.{◌⊘◌, 0ᶠ, 1ᶠ, ∞, −∞}

pub infinity-is : 1ᶠ ⊘ 0ᶠ ≡ ∞
unfolding of_bits div
infinity-is = refl

pub neg_infinity-is : neg 1ᶠ ⊘ 0ᶠ ≡ −∞
unfolding of_bits div neg
neg_infinity-is = refl
