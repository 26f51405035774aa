-- Which patterns `from_bits` takes, and what `to_bits` asks: no NaN. Every pattern of a NaN is the one NaN.
use Prim.Native.Nat.{ℕ, ◌%◌, ◌≤◌, ◌<◌}
use mathlib.Core.Path.{◌≡◌, sym, ◌∙◌, subst}
use mathlib.Core.Bool.{Bool, false, not}
use lib.Dec.{T}
use lib.Ieee.{Float, nan, binary64, is_nan, nan_bits, of_bits, ne}
use lib.Ieee.Bits.{nan_bits_is, nan_bits_above}
use borrow.Author.Tests.{lt-ltb, le-ltb}
use Rattle.floats.specs.Helpers.{nan_test}
use Rattle.floats.proofs.Meaning.{nan_test_is_nan, only_nan}

pub nan_pattern : (b : ℕ) → 0x7FF0000000000000 < b % 0x8000000000000000 → of_bits binary64 b ≡ nan
nan_pattern b h = only_nan (of_bits binary64 b) (sym (nan_bits_is binary64 b) ∙ nan_bits_above binary64 b ∙ lt-ltb 0x7FF0000000000000 (b % 0x8000000000000000) h)

pub number-pattern : (b : ℕ) → b % 0x8000000000000000 ≤ 0x7FF0000000000000 → T (not (nan_bits binary64 b))
number-pattern b h = subst (λ (t : Bool). T (not t)) (sym (nan_bits_above binary64 b ∙ le-ltb 0x7FF0000000000000 (b % 0x8000000000000000) h)) tt

-- what `to_bits` asks of a value that equals itself
pub number_kind : (v : Float) → ne v v ≡ false → T (not (is_nan v))
number_kind v h = subst (λ (t : Bool). T (not t)) (sym (sym (nan_test_is_nan v) ∙ nan_tested v h)) tt
  where
    nan_tested : (v : Float) → ne v v ≡ false → nan_test v ≡ false
    nan_tested v h = unfold nan_test in h
