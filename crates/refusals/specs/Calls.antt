-- What a call that may be refused answers. Definitions only.
use Rattle.std.specs.Prelude.{ℕ, Option, Some, None, Result, Ok, Err}
use Rattle.refusals.specs.declared.Refusal.{Refusal}
use Rattle.refusals.specs.Numbers.{number}

-- the number of a refusal, and 0 where there is none
abbrev pub or_zero : Option Refusal → ℕ
or_zero (Some r) = number r
or_zero None = 0

-- x, or where a rule is broken the refusal and nothing else
abbrev pub unless : {A : Type 0} → Option Refusal → A → Result A Refusal
unless (Some r) x = Err r
unless None x = Ok x

-- `r.map(f)`
abbrev pub result_map : {A B : Type 0} → (A → B) → Result A Refusal → Result B Refusal
result_map f (Ok x) = Ok (f x)
result_map f (Err r) = Err r
