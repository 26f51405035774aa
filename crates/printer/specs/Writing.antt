-- Text laid into a buffer. Definitions only.
use Rattle.std.specs.Prelude.{ℕ, ◌+◌, ◌≤◌, min, ◌≡◌, List, length}
use Rattle.std.proofs.lemmas.List.Edits.{sets}

-- the text was laid from `at` on as far as the buffer goes, and the next place is `next`
pub record Wrote (before : List ℕ) (at : ℕ) (after : List ℕ) (next : ℕ) (text : List ℕ) : Type 0 where
  pub laid : after ≡ sets before at text
  pub place : next ≡ min (length before) (at + length text)
  pub room : next ≤ length after
