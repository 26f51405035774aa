-- Sums and differences of many terms, each rounded, upward in index from a start value. Definitions only; their laws are in proofs/Sums.antt.
use Rattle.std.specs.Prelude.{ℕ, Float}
use Rattle.std.specs.Float.{binary64}
use Rattle.std.specs.Float.Ieee.{add, sub}
use Rattle.loops.specs.Loops.{between}

-- s, then op with f lo, with f (lo + 1), up to f (hi - 1)
unfoldable pub gathered : (Float → Float → Float) → Float → (ℕ → Float) → ℕ → ℕ → Float
gathered op s f lo hi = between lo hi s λ t s. op s (f t)

abbrev pub sum : Float → (ℕ → Float) → ℕ → ℕ → Float
sum s f lo hi = gathered (add binary64) s f lo hi

abbrev pub difference : Float → (ℕ → Float) → ℕ → ℕ → Float
difference s f lo hi = gathered (sub binary64) s f lo hi
