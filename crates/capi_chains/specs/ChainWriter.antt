-- What the exported writer of chained bend files answers and leaves. Definitions only.
use Rattle.std.specs.Prelude.{ℕ, ◌≡◌, Bool, true, false, ◌&&◌, List, leb, length, set, Result, Ok, Err}
use Rattle.refusals.specs.Numbers as numbers
use Rattle.refusals.specs.declared.Refusal.{Refusal}
use Rattle.refusals.specs.declared.Refusal.TheVariants.{Short}
use Rattle.bend_writer.specs.Steps.{Step}
use Rattle.bend_writer.specs.Write as write

-- there are as many steps as `rows` has places; `coords` and `counts` have one for each, and `written` has one
abbrev pub taken : List ℕ → List ℕ → List ℕ → List ℕ → Bool
taken rows coords counts written = leb (length rows) (length coords) && leb (length rows) (length counts) && leb 1 (length written)

-- the writer's answer where the slices are long enough, else 10
unfoldable pub reply : Bool → List Step → ℕ → Result (List ℕ) Refusal
reply true l room = write.answer l room
reply false l room = Err Short

abbrev pub number : Result ℕ Refusal → ℕ
number (Err r) = numbers.number r
number (Ok bytes) = 0

abbrev pub written_left : Result ℕ Refusal → List ℕ → List ℕ
written_left (Err r) l = l
written_left (Ok bytes) l = set l 0 bytes

-- of the output and of `written` what each held before and after
pub record Answered (x : Result (List ℕ) Refusal) (r : ℕ) (out out' written written' : List ℕ) : Type 0 where
  pub number_is : r ≡ number (write.result x)
  pub output : out' ≡ write.left x out
  pub written_is : written' ≡ written_left (write.result x) written
