-- Words of the private functions' contracts. A reader of the promises does not need them.
use Rattle.std.specs.Prelude.{ℕ, ◌+◌, ◌≤◌, ◌≡◌, cond, List, leb, length, get_or, None, Result}
use Rattle.std.proofs.lemmas.List.Edits.{sets}
use Rattle.refusals.specs.declared.Refusal.{Refusal}
use Rattle.refusals.specs.Calls.{unless}
use Rattle.bend_writer.specs.Steps.{Step, file, steps_refusal}
use Rattle.bend_writer.specs.declared.StepSize.{StepSize}
use Rattle.bend_writer.specs.declared.steps.Cursor.{Cursor}

-- `bytes` laid into a list from `at` on
pub record Laid (out : List ℕ) (at : ℕ) (after bytes : List ℕ) : Type 0 where
  pub laid : after ≡ sets out at bytes

-- the cursor c became d: `bytes`, which are n, were laid next, in the same buffer
pub record Put (c d : Cursor) (n : ℕ) (bytes : List ℕ) : Type 0 where
  pub laid : Laid c.out.now c.at d.out.now bytes
  pub at : d.at ≡ c.at + n
  pub long : length d.out.now ≡ length c.out.now
  pub same : d.out.ghost_name ≡ c.out.ghost_name

-- how many values a step of `count` values has where `left` are left
unfoldable pub had : ℕ → ℕ → ℕ
had count left = cond (leb count left) count 0

-- what the steps' own rules answer: how many bytes their file has
unfoldable pub checked : List Step → Result ℕ Refusal
checked l = unless (steps_refusal l) (length (file l))

-- the steps keep their rules, and their file has room
pub record Room (l : List Step) (room : ℕ) : Type 0 where
  pub kept : steps_refusal l ≡ None
  pub fits : length (file l) ≤ room

-- the size of step i, of those lists
abbrev pub size : List ℕ → List ℕ → List ℕ → ℕ → StepSize
size rows coords counts i = record { rows = get_or rows i 0; coords = get_or coords i 0; count = get_or counts i 0 }
