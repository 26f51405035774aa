-- What the private steps of adding a term promise each other. Definitions only.
use Rattle.std.specs.Prelude.{◌≡◌, ℕ, ◌+◌, ◌*◌, ◌^◌, ◌<◌, Bool, cond, List, [], ◌∷◌, length, get_or, Result, Ok, from_bits, Float}
use Rattle.std.specs.Float.{binary64}
use Rattle.accumulator.specs.Accumulators.{base, value, units, signed, add_product, then}
use Rattle.refusals.specs.declared.Refusal.{Refusal}
use Rattle.accumulator.specs.declared.Accumulator.{Accumulator}
use Rattle.accumulator.specs.declared.term.Scaled.{Scaled}

-- the value whose pattern is a sign and the magnitude's pattern
abbrev pub pattern : Bool → ℕ → Float
pattern s m = from_bits binary64 (cond s 0x8000000000000000 0 + m)

-- v is a whole number of at most 53 digits, so many places up, in units of 2 ^ -1074
pub record Scales (v : Float) (x : Scaled) : Type 0 where
  pub same : units v ≡ signed x.negative (x.digits * 2 ^ x.places)
  pub short : x.digits < 9007199254740992
  pub low : x.places < 2046

-- a number before and after n is added to it, or taken from it, and c carried out of it
pub record Moved (taken : Bool) (before after n c : ℕ) : Type 0 where
  pub is : cond taken before after + c ≡ cond taken after before + n

-- 67 words of 64 bits
pub record Words (l : List ℕ) : Type 0 where
  pub all : length l ≡ 67
  pub each : (i : ℕ) → get_or l i 0 < base

-- the same of the number of 67 words
pub record Carried (taken : Bool) (before after : List ℕ) (n c : ℕ) : Type 0 where
  pub moved : Moved taken (value before) (value after) n c
  pub words : Words after

-- a row's products, each added to what the one before it left
unfoldable pub products : Accumulator → List Float → List Float → Result Accumulator Refusal
products a [] nu = Ok a
products a (x ∷ w) [] = Ok a
products a (x ∷ w) (y ∷ nu) = then (add_product a x y) (λ b. products b w nu)
