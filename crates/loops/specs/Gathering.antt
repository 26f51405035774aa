-- What a loop leaves that gathers numbers at the front of a list lent to it. Contracts cite it. Definitions only.
use Rattle.std.specs.Prelude.{ℕ, ◌≡◌, Bool, List, length}
use Rattle.loops.specs.Loops.{those, fronted}

-- of the numbers below i those that pass: k of them, and l is what was lent, l₀, with them at its front
pub record Gathering (test : ℕ → Bool) (l₀ : List ℕ) (i k : ℕ) (l : List ℕ) : Type 0 where
  pub count : k ≡ length (those test i)
  pub front : l ≡ fronted (those test i) l₀
