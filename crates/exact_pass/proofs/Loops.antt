-- The laws by which the goals of a loop close that makes turns, fills a table or updates a list in place.
use Rattle.std.proofs.Common.{ℕ, ◌+◌, ◌≡◌, ◌<◌, ◌++◌, List, length, set, drop}
use Rattle.loops.specs.Loops.{tab}
use Rattle.loops.proofs.Turns.{turns-from, turns_again, turns_done, between-from, between_again, between_done}
use Rattle.loops.proofs.Fill.{tab-start, tab_again, tab_done}

pub ruleset turning = (turns-from, turns_again, turns_done)

pub ruleset updating = (between-from, between_again, between_done)

-- one more value v of the table
pub tab_more : {A : Type 0} (f : ℕ → A) (n : ℕ) (v : A) (d s : List A) → s ≡ tab f n ++ drop n d → length s ≡ length d → n < length s → v ≡ f n → set s n v ≡ tab f (n + 1) ++ drop (n + 1) d
tab_more f n v d s e g l h = rw h (tab_again f n d s e g l)

pub ruleset filling = (tab-start, tab_more, tab_done)
