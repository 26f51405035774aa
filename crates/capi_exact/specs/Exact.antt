-- An accumulator as plain numbers: its words in the first 67 places of one list, how many products it holds and whether a free motion in the first two of
-- another. Definitions only.
use Rattle.std.specs.Prelude.{ℕ, ◌≡◌, Bool, true, false, cond, ◌&&◌, List, leb, ℤ, get_or, set, take, length, Result, Ok, Err}
use Rattle.loops.specs.Loops.{pasted}
use Rattle.accumulator.specs.declared.Accumulator.{Accumulator}
use Rattle.refusals.specs.declared.Refusal.{Refusal}
use Rattle.refusals.specs.declared.Refusal.TheVariants.{Short}
use Rattle.refusals.specs.Calls.{or_zero}
use Rattle.std.specs.Result.{result_err}
use Rattle.accumulator.specs.Accumulators.{meaning, sign_of}
use Rattle.flags.specs.Flags.{flag, flagged}

unfoldable pub state : List ℕ → List ℕ → Accumulator
state words counts = record { words = take 67 words; products = get_or counts 0 0; free = flagged (get_or counts 1 0) }

-- ---- a call is taken where there is room; else 10

unfoldable pub taken : List ℕ → List ℕ → Bool
taken words counts = leb 67 (length words) && leb 2 (length counts)

-- two accumulators
unfoldable pub both_taken : List ℕ → List ℕ → List ℕ → List ℕ → Bool
both_taken words counts other others = taken words counts && taken other others

abbrev pub reply : Bool → Result Accumulator Refusal → Result Accumulator Refusal
reply true x = x
reply false x = Err Short

-- the accumulator that the lists hold, where there is room for one
abbrev pub held : List ℕ → List ℕ → Result Accumulator Refusal
held words counts = reply (taken words counts) (Ok (state words counts))

-- ---- what is left: the sum where the call is taken, and else nothing is written

abbrev pub words_left : Result Accumulator Refusal → List ℕ → List ℕ
words_left (Ok a) l = pasted a.words l
words_left (Err r) l = l

abbrev pub counts_left : Result Accumulator Refusal → List ℕ → List ℕ
counts_left (Ok a) l = set (set l 0 a.products) 1 (flag a.free)
counts_left (Err r) l = l

pub record Left (x : Result Accumulator Refusal) (r : ℕ) (words words' counts counts' : List ℕ) : Type 0 where
  pub number_is : r ≡ or_zero (result_err x)
  pub words_are : words' ≡ words_left x words
  pub counts_are : counts' ≡ counts_left x counts

-- ---- the sign: 67 words and a place for it, or 10

unfoldable pub sign_taken : List ℕ → List ℤ → Bool
sign_taken words sign = leb 67 (length words) && leb 1 (length sign)

pub record Signed (b : Bool) (r : ℕ) (words : List ℕ) (sign sign' : List ℤ) : Type 0 where
  pub number_is : r ≡ cond b 0 10
  pub sign_is : sign' ≡ cond b (set sign 0 (sign_of (meaning (take 67 words)))) sign
