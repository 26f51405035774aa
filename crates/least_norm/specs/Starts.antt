-- Back substitution and the columns' order from any start. Where every place is written, the start does not show
-- (proofs/Starts.antt), and need not be zeros. Words of private contracts: no promise of a public call stands on them.
-- Definitions only.
use Rattle.std.specs.Prelude.{ℕ, ◌+◌, ◌*◌, List, [], ◌∷◌, get_or, set, Float}
use Rattle.loops.specs.Loops.{turns, downward}
use Rattle.floats.specs.Ops.{◌⊘◌, at}
use Rattle.least_norm.specs.Private.{known}

unfoldable pub substituted : List Float → ℕ → ℕ → List Float → List Float → ℕ → List Float
substituted y n rank a b i = downward rank i y λ i y. set y i (known n rank a b y i ⊘ at a (i * n + i))

unfoldable pub unpermuted : List Float → List ℕ → List Float → ℕ → List Float
unpermuted x perm y j = turns j x λ j x. set x (get_or perm j 0) (at y j)

-- the same, both lists taken from the front as long as there are both
unfoldable pub scattered : List Float → List ℕ → List Float → List Float
scattered x [] y = x
scattered x (p ∷ perm) [] = x
scattered x (p ∷ perm) (v ∷ y) = scattered (set x p v) perm y
