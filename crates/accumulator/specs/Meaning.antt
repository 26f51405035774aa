-- What is claimed of the accumulator: its words mean the exact sum of the terms that it took, a whole number of 2 ^ -2148; and a row is its single calls.
-- Definitions only. proofs/Exact.antt has the theorems.
use Rattle.std.specs.Prelude.{◌≡◌, ℕ, cond, List, [], ◌∷◌, ℤ, pos, ◌+ℤ◌, Result, Ok, Float}
use Rattle.std.specs.Result.{is_ok, result_unwrap_or}
use Rattle.loops.specs.Loops.{turns}
use Rattle.floats.specs.Ops.{Fits, at}
use Rattle.accumulator.specs.declared.Accumulator.{Accumulator}
use Rattle.refusals.specs.declared.Refusal.{Refusal}
use Rattle.accumulator.specs.Accumulators.{meaning, free_term, product_term, EMPTY, add_free, add_product, then, shorter, row}

pub data Term : Type 0 where
  free : Float → Term
  product : Float → Float → Term

-- its values are such as an f64 holds, NaN and infinities among them
abbrev pub Held : Term → Type 0
Held (free u) = Fits u
Held (product w v) = Fits w × Fits v

abbrev pub AllHeld : List Term → Type 0
AllHeld [] = Unit
AllHeld (t ∷ l) = Held t × AllHeld l

abbrev pub term : Term → ℤ
term (free u) = free_term u
term (product w v) = product_term w v

abbrev pub add : Accumulator → Term → Result Accumulator Refusal
add a (free u) = add_free a u
add a (product w v) = add_product a w v

-- ---- terms added to an empty accumulator, the head of the list last; one that is refused leaves it as it was

unfoldable pub after : List Term → Accumulator
after [] = EMPTY
after (t ∷ l) = result_unwrap_or (add (after l) t) (after l)

-- the sum of those that were taken
unfoldable pub sum : List Term → ℤ
sum [] = pos 0
sum (t ∷ l) = cond (is_ok (add (after l) t)) (term t +ℤ sum l) (sum l)

-- ---- the claims

abbrev pub Exact : Type 0
Exact = (l : List Term) → AllHeld l → meaning (after l).words ≡ sum l

-- a row that is taken is a free motion, then its products one by one, each of them taken
unfoldable pub singles : Float → List Float → List Float → ℕ → Result Accumulator Refusal
singles u w nu k = turns k (add_free EMPTY u) λ j x. then x (λ a. add_product a (at w j) (at nu j))

abbrev pub RowIsSingles : Type 0
RowIsSingles = (u : Float) (w nu : List Float) (a : Accumulator) → row u w nu ≡ Ok a → singles u w nu (shorter w nu) ≡ Ok a
