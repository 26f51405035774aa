-- What the answer of a call that may be refused tells of its rules, and two rules one after another.
use Rattle.std.proofs.Common.{◌≡◌, refl, Bool, true, false, not, cond, Option, Some, None, Ok, Err}
use Rattle.std.specs.Option.{option_or}
use Rattle.refusals.specs.declared.Refusal.{Refusal}
use Rattle.refusals.specs.Calls.{unless}

module _ {A : Type 0} where
  pub taken : (o : Option Refusal) (x v : A) → Ok v ≡ unless o x → (o ≡ None) × (v ≡ x)
  taken None x v e = (refl, (cc))
  taken (Some r) x v e = (absurd (cc), (cc))

  pub refused : (o : Option Refusal) (x : A) (r : Refusal) → Err r ≡ unless o x → o ≡ Some r
  refused None x r e = cc
  refused (Some q) x r e = cc

-- a rule that no refusal speaks of is kept, and so are those after it
pub rule-kept : (b : Bool) (r : Refusal) (o : Option Refusal) → cond (not b) (Some r) o ≡ None → (b ≡ true) × (o ≡ None)
rule-kept true r o e = (refl, e)
rule-kept false r o e = (absurd (cc), (cc))

pub both-kept : (o p : Option Refusal) → option_or o p ≡ None → (o ≡ None) × (p ≡ None)
both-kept None p e = (refl, e)
both-kept (Some r) p e = (absurd (cc), (cc))
