-- A product of two f64 is the same either way round.
use Prim.Native.Nat.{◌*◌}
use mathlib.Core.Path.{◌≡◌, refl}
use mathlib.Core.Bool.{Bool, true, false}
use native.Mathlib.Nat.{mul_comm}
use lib.Ieee.{Float, nan, inf, fin, mul, up, down, unlike}
use Rattle.floats.specs.Ops.{◌⊗◌}

unlike-comm : (s t : Bool) → unlike s t ≡ unlike t s
unlike-comm true true = refl
unlike-comm true false = refl
unlike-comm false true = refl
unlike-comm false false = refl

pub product-comm : (x y : Float) → x ⊗ y ≡ y ⊗ x
unfolding mul
product-comm nan nan = refl
product-comm nan (inf t) = refl
product-comm nan (fin t n d) = refl
product-comm (inf s) nan = refl
product-comm (inf s) (inf t) = rw (unlike-comm s t)
product-comm (inf s) (fin t n d) = rw (unlike-comm s t)
product-comm (fin s m e) nan = refl
product-comm (fin s m e) (inf t) = rw (unlike-comm s t)
product-comm (fin s m e) (fin t n d) = rw (unlike-comm s t, mul_comm (m * up e) (n * up d), mul_comm (down e) (down d))
