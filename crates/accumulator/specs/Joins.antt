-- Two accumulators joined into one: the words add modulo 2 ^ 4288. Definitions only.
use Rattle.std.specs.Prelude.{◌+◌, ◌%◌, Bool, cond, not, ◌&&◌, ◌||◌, leb, Result, Ok, Err}
use Rattle.accumulator.specs.Accumulators.{value, words, size}
use Rattle.accumulator.specs.declared.Accumulator.{Accumulator}
use Rattle.refusals.specs.declared.Refusal.{Refusal}
use Rattle.refusals.specs.declared.Refusal.TheVariants.{ExactFull}

-- the total is within 32 products and one free motion
unfoldable pub joinable : Accumulator → Accumulator → Bool
joinable a b = leb (a.products + b.products) 32 && not (a.free && b.free)

unfoldable pub joined : Accumulator → Accumulator → Accumulator
joined a b = record { words = words ((value a.words + value b.words) % size); products = a.products + b.products; free = a.free || b.free }

-- full where the total is past the limits
unfoldable pub join : Accumulator → Accumulator → Result Accumulator Refusal
join a b = cond (joinable a b) (Ok (joined a b)) (Err ExactFull)
