-- The law of document 02's accumulators: any order and any grouping of the same terms gives the same words, counts, sign and rounded value, and no call on the way is refused where
-- the terms are within the limits. Definitions only; the theorem is `any_order` in proofs/Orders.antt. Rounded row sums have no such law: Examples.antt computes a row of three
-- terms whose rounded sum depends on the order.
use Rattle.std.specs.Prelude.{ℕ, ◌+◌, ◌≤◌, ◌≡◌, Bool, true, false, cond, ◌&&◌, Result, Ok, Float}
use mathlib.Core.List.{List, [], ◌∷◌, ◌++◌, Permᴰ}
use Rattle.floats.specs.Helpers.{is_finite}
use Rattle.accumulator.specs.Accumulators.{EMPTY, add_free, add_product, then, meaning, sign_of}
use Rattle.accumulator.specs.Joins.{join}
use Rattle.nearest.specs.ToNearest.{nearest}
use Rattle.accumulator.specs.declared.Accumulator.{Accumulator}
use Rattle.refusals.specs.declared.Refusal.{Refusal}

-- ---- what can be done with accumulators: begin one, add a free motion or a product to one, join two
pub data Sum : Type 0 where
  empty : Sum
  with_free : Sum → Float → Sum
  with_product : Sum → Float → Float → Sum
  both : Sum → Sum → Sum

-- the terms that were added, whatever the order and the grouping
pub data Term : Type 0 where
  free : Float → Term
  product : Float → Float → Term

unfoldable pub terms : Sum → List Term
terms empty = []
terms (with_free e u) = free u ∷ terms e
terms (with_product e w v) = product w v ∷ terms e
terms (both d e) = terms d ++ terms e

-- the calls of a sum: what the last one answers, or the first refusal
unfoldable pub made : Sum → Result Accumulator Refusal
made empty = Ok EMPTY
made (with_free e u) = then (made e) (λ a. add_free a u)
made (with_product e w v) = then (made e) (λ a. add_product a w v)
made (both d e) = then (made d) (λ a. then (made e) (λ b. join a b))

-- ---- the limits, as counts over the terms

unfoldable pub total : (Term → ℕ) → List Term → ℕ
total f [] = 0
total f (t ∷ l) = f t + total f l

abbrev pub one : Bool → ℕ
one true = 1
one false = 0

unfoldable pub not_finite : Term → ℕ
not_finite (free u) = cond (is_finite u) 0 1
not_finite (product w v) = cond (is_finite w && is_finite v) 0 1

unfoldable pub is_free : Term → ℕ
is_free (free u) = 1
is_free (product w v) = 0

unfoldable pub is_product : Term → ℕ
is_product (free u) = 0
is_product (product w v) = 1

-- every value finite, one free motion at most, 32 products at most
pub record Within (l : List Term) : Type 0 where
  pub finite : total not_finite l ≡ 0
  pub frees : total is_free l ≤ 1
  pub products : total is_product l ≤ 32

-- ---- the law

-- both are taken, and what they leave is the same
pub record Same (r s : Result Accumulator Refusal) : Type 0 where
  pub sum : Accumulator
  pub sum_too : Accumulator
  pub taken : r ≡ Ok sum
  pub taken_too : s ≡ Ok sum_too
  pub words : sum.words ≡ sum_too.words
  pub products : sum.products ≡ sum_too.products
  pub free : sum.free ≡ sum_too.free
  pub sign : sign_of (meaning sum.words) ≡ sign_of (meaning sum_too.words)
  pub rounded : nearest (meaning sum.words) ≡ nearest (meaning sum_too.words)

abbrev pub AnyOrder : Type 0
AnyOrder = (d e : Sum) → Permᴰ (terms d) (terms e) → Within (terms d) → Same (made d) (made e)
