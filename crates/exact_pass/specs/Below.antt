-- The rows of a list as places of other lists. Definitions only.
use Rattle.std.specs.Prelude.{ℕ, ◌<◌, List, get_or, length}

-- every number of l is below n
abbrev pub Below : ℕ → List ℕ → Type 0
Below n l = (i : ℕ) → i < length l → get_or l i 0 < n
