-- In-place loops: each turn sets one place of a list from what stands there. Definitions only; their laws are in proofs/Updates.antt.
use Rattle.std.specs.Prelude.{ℕ, List, get_or, set}
use Rattle.loops.specs.Loops.{between}

-- l, after place π t is set to g t of what stands there, for each t from a up to b. z is what is read where there is no such place.
unfoldable pub updated : {A : Type 0} → A → (ℕ → ℕ) → (ℕ → A → A) → ℕ → ℕ → List A → List A
updated z π g a b l = between a b l λ t l. set l (π t) (g t (get_or l (π t) z))
