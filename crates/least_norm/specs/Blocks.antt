-- The same operations in another order: k adjacent columns, from column c on, together and row by row. Each scalar
-- keeps its operations and their order (proofs/Blocks.antt). Words of private contracts: no promise of a public call
-- stands on them. Definitions only.
use Rattle.std.specs.Prelude.{ℕ, ◌+◌, ◌*◌, List, Float}
use Rattle.std.specs.Float.{nan}
use Rattle.loops.specs.Loops.{between}
use Rattle.loops.specs.Updates.{updated}
use Rattle.floats.specs.Ops.{◌⊕◌, ◌⊖◌, ◌⊗◌, at}

-- to s t the squares of column c + t, from row `from` up to row m
unfoldable pub squares : List Float → ℕ → ℕ → ℕ → List Float → ℕ → ℕ → List Float
squares a n c k s from m = between from m s λ row s. updated nan (λ t. t) (λ t x. x ⊕ at a (row * n + c + t) ⊗ at a (row * n + c + t)) 0 k s

-- to s t the products of column c + t and v
unfoldable pub products : List Float → ℕ → ℕ → ℕ → List Float → List Float → ℕ → ℕ → List Float
products a n c k v s from m = between from m s λ row s. updated nan (λ t. t) (λ t x. x ⊕ at v row ⊗ at a (row * n + c + t)) 0 k s

-- each row less the columns' factors f times v's entry
unfoldable pub less_rows : ℕ → ℕ → ℕ → List Float → List Float → List Float → ℕ → ℕ → List Float
less_rows n c k v f a from m = between from m a λ row a. updated nan (λ t. row * n + c + t) (λ t x. x ⊖ at f t ⊗ at v row) 0 k a
