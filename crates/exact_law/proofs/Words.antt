-- Numbers added by their words, modulo size. Assumes nothing.
use Prim.Native.Nat.{ℕ, ◌+◌, ◌%◌}
use mathlib.Core.Path.{◌≡◌, ◌∙◌, ap}
use native.Mathlib.Nat.{mod-mod, mod-add-mod, add-mod-mod}
use native.Mathlib.Omega.{arith}
use Rattle.accumulator.specs.Accumulators.{value, words, size}
use Rattle.accumulator.proofs.Values.{value-words}

-- one number more, and two words' numbers together
pub one_more : (s r : ℕ) → words ((value (words (s % size)) + r) % size) ≡ words ((r + s) % size)
one_more s r =
    ap words
    (ap (λ (x : ℕ). (x + r) % size) (value-words (s % size) ∙ mod-mod s size)
    ∙ mod-add-mod s size r ∙ ap (λ (x : ℕ). x % size) (omega arith))

pub together : (s t : ℕ) → words ((value (words (s % size)) + value (words (t % size))) % size) ≡ words ((s + t) % size)
together s t =
    ap words
    (ap (λ (x : ℕ). (x + value (words (t % size))) % size) (value-words (s % size) ∙ mod-mod s size)
    ∙ ap (λ (x : ℕ). (s % size + x) % size) (value-words (t % size) ∙ mod-mod t size)
    ∙ mod-add-mod s size (t % size) ∙ add-mod-mod s t size)
