-- A whole number of 2 ^ -(2 * low) rounded to a format: in units of the format's smallest value, 2 ^ -low, it is cut at digit low + k. Assumes nothing.
use Prim.Native.Nat.{ℕ, ◌+◌, ◌-◌, ◌*◌, ◌/◌, ◌^◌}
use mathlib.Core.Path.{◌≡◌, ap, ◌∙◌}
use mathlib.Core.Bool.{Bool}
use native.Mathlib.Omega.{arith}
use native.Mathlib.Nat.{mul-pos, mul-div-mul_right}
use lib.Pow.{pow_pos, pow-add}
use lib.Ieee.{Format, prec, low, size, units, round}
use lib.Ieee.Fits.{core, round_is}
use lib.Ieee.Nearest.{closest, closest_same}
use Rattle.nearest.proofs.Sizes.{size_shr}

cross : (m x y p q : ℕ) → p ≡ x * y → q ≡ x * x → m * x * p ≡ m * (q * y)
cross m x y p q e f = rw (e, f) (omega arith)

less : (n l p : ℕ) → n - l - p ≡ n - (l + p)
less n l p = omega arith

module _ (f : Format) (s : Bool) (m : ℕ) where
  abbrev low_digit : ℕ
  low_digit = low f

  dropped : size (m * 2 ^ low_digit / 2 ^ (low_digit + low_digit)) - prec f ≡ size m - (low_digit + prec f)
  dropped =
      ap (λ (x : ℕ). size (m * 2 ^ low_digit / x) - prec f) (pow-add 2 low_digit low_digit)
      ∙ ap (λ (x : ℕ). size x - prec f) (mul-div-mul_right m (2 ^ low_digit) (pow_pos low_digit))
      ∙ ap (λ (x : ℕ). x - prec f) (size_shr m low_digit)
      ∙ less (size m) low_digit (prec f)

  cut_at : (k : ℕ) → closest (m * 2 ^ low_digit) (2 ^ (low_digit + low_digit) * 2 ^ k) ≡ closest m (2 ^ (low_digit + k))
  cut_at k =
      closest_same (m * 2 ^ low_digit) (2 ^ (low_digit + low_digit) * 2 ^ k) m (2 ^ (low_digit + k)) (mul-pos (pow_pos (low_digit + low_digit)) (pow_pos k)) (pow_pos (low_digit + k))
      (cross m (2 ^ low_digit) (2 ^ k) (2 ^ (low_digit + k)) (2 ^ (low_digit + low_digit)) (pow-add 2 low_digit k) (pow-add 2 low_digit low_digit))

  pub round-units : (k : ℕ) → size m - (low_digit + prec f) ≡ k → round f s m (2 ^ (low_digit + low_digit)) ≡ units f s (closest m (2 ^ (low_digit + k))) k
  round-units k e =
      round_is f s m (2 ^ (low_digit + low_digit)) ∙ ap (core f s (m * 2 ^ low_digit) (2 ^ (low_digit + low_digit))) (dropped ∙ e) ∙ ap (λ (q : ℕ). units f s q k) (cut_at k)
