-- What the exported call for the f64 nearest to an exact row sum answers and leaves. Definitions only.
use Rattle.std.specs.Prelude.{ℕ, ◌≡◌, Bool, true, false, ◌&&◌, List, leb, length, take, set, Float}
use Rattle.accumulator.specs.Accumulators.{meaning}
use Rattle.nearest.specs.ToNearest.{nearest}

-- 67 words, and a place for the result
unfoldable pub taken : List ℕ → List Float → Bool
taken words result = leb 67 (length words) && leb 1 (length result)

abbrev pub number : Bool → ℕ
number true = 0
number false = 10

abbrev pub result_left : Bool → List ℕ → List Float → List Float
result_left true words result = set result 0 (nearest (meaning (take 67 words)))
result_left false words result = result

pub record Answered (words : List ℕ) (r : ℕ) (result result' : List Float) : Type 0 where
  pub number_is : r ≡ number (taken words result)
  pub result_is : result' ≡ result_left (taken words result) words result
