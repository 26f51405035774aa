-- What the writer is lent, and what it gives back. Definitions only.
use Rattle.std.specs.Prelude.{ℕ, ◌+◌, ◌≡◌, cond, List, [], map, leb, Float, length, get_or, take, drop, Result, Ok, Err}
use Rattle.loops.specs.Loops.{tab, turns}
use Rattle.refusals.specs.declared.Refusal.{Refusal}
use Rattle.refusals.specs.Calls.{unless, result_map}
use Rattle.bend_file.specs.Little.{over}
use Rattle.bend_writer.specs.Steps.{Step, file, refusal}
use Rattle.bend_writer.specs.declared.StepSize.{StepSize}

-- ---- the steps that are lent, oldest first

-- `count` values from the place `from` on; none where there are not so many, which 4 then refuses
unfoldable pub part : List Float → ℕ → ℕ → List Float
part values from count = cond (leb (from + count) (length values)) (take count (drop from values)) []

-- how many values the first k steps have
unfoldable pub before : List ℕ → ℕ → ℕ
before counts k = turns k 0 λ i n. n + get_or counts i 0

-- rows, coords and counts have a number for each step, 0 past their ends; step k's values are the next counts[k] of `values`
unfoldable pub step_at : List ℕ → List ℕ → List ℕ → List Float → ℕ → Step
step_at rows coords counts values k = record { rows = get_or rows k 0; coords = get_or coords k 0; values = part values (before counts k) (get_or counts k 0) }

unfoldable pub lent : ℕ → List ℕ → List ℕ → List ℕ → List Float → List Step
lent steps rows coords counts values = tab (step_at rows coords counts values) steps

-- the same of the steps' sizes
abbrev pub pulled : List StepSize → List Float → List Step
pulled l values =
    lent (length l) (map (λ (s : StepSize). s.rows) l) (map (λ (s : StepSize). s.coords) l)
    (map (λ (s : StepSize). s.count) l) values

-- ---- the answer

-- the file, or a refusal and nothing else
unfoldable pub answer : List Step → ℕ → Result (List ℕ) Refusal
answer l room = unless (refusal l room) (file l)

-- how many bytes the file has
abbrev pub result : Result (List ℕ) Refusal → Result ℕ Refusal
result a = result_map length a

-- the output afterwards: unchanged by a refusal, else with the file at its front
abbrev pub left : Result (List ℕ) Refusal → List ℕ → List ℕ
left (Err r) out = out
left (Ok f) out = over f out

-- what the writer ensures: its result and what it leaves in the output are those of the steps' answer
pub record Writes (l : List Step) (r : Result ℕ Refusal) (out after : List ℕ) : Type 0 where
  pub result : r ≡ result (answer l (length out))
  pub output : after ≡ left (answer l (length out)) out
