-- A row's sum over lists of which one has ended.
use Rattle.std.proofs.Common.{◌≡◌, refl, sym, length}
use mathlib.Core.List.{List, [], ◌∷◌}
use lib.Ieee.{Float}
use Rattle.std.proofs.lemmas.List.{nil_from_length}
use Rattle.box_rows.specs.Rows.{row_sum}

no_multiplier : (r : List Float) (u : Float) → row_sum r u [] ≡ u
unfolding row_sum
no_multiplier [] u = refl
no_multiplier (a ∷ r) u = refl

no_entry : (nu : List Float) (u : Float) → row_sum [] u nu ≡ u
unfolding row_sum
no_entry nu u = refl

pub row_sum_ended : (r : List Float) (u : Float) (nu : List Float) → length r ≡ 0 → u ≡ row_sum r u nu
row_sum_ended r u nu e = rw (nil_from_length r e) (sym (no_entry nu u))

pub row_sum_ended-2 : (r : List Float) (u : Float) (nu : List Float) → length nu ≡ 0 → u ≡ row_sum r u nu
row_sum_ended-2 r u nu e = rw (nil_from_length nu e) (sym (no_multiplier r u))
