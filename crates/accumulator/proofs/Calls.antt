-- A whole row is its calls, one after the other. Assumes nothing.
use Rattle.std.proofs.Common.{◌≡◌, ℕ, zero, suc, ◌+◌, ◌<◌, ◌≤◌, Bool, true, false, ◌&&◌, List, [], ◌∷◌, length, min, drop, replicate, sym, refl, ap, ◌∙◌, add-one, arith, Result, Ok, Err, ltb, cond, lt-ltb, le-leb, length-drop, drop-cons}
use borrow.Author.Tests.{lt-leb}
use lib.Ieee.{Float, nan}
use Rattle.loops.specs.Loops.{turns, every}
use Rattle.loops.proofs.Every.{both_true, every-at}
use Rattle.floats.specs.Helpers.{is_finite}
use Rattle.floats.specs.Ops.{at}
use Rattle.refusals.specs.declared.Refusal.{Refusal}
use Rattle.refusals.specs.declared.Refusal.TheVariants.{NotFinite, ExactFull}
use Rattle.accumulator.specs.declared.Accumulator.{Accumulator}
use Rattle.accumulator.specs.Accumulators.{digits_in, EMPTY, words, added, free_term, product_term, with_free, with_product, add_free, add_product, then, shorter, both_finite, row_sum, row}
use Rattle.accumulator.specs.Steps.{products}

pub empty-is : record { words = replicate 67 0; products = 0; free = false } ≡ EMPTY
unfolding EMPTY digits_in
empty-is = refl

-- no product is held after the free motion
pub none-counted : (u : Float) (a : Accumulator) → Ok a ≡ add_free EMPTY u → a.products ≡ 0
unfolding add_free with_free EMPTY
none-counted u a h = go (is_finite u) h
  where
    go : (b : Bool) → Ok a ≡ cond b (Ok (with_free EMPTY u)) (Err NotFinite) → a.products ≡ 0
    go true e = cc
    go false e = cc

-- none is left of one list or the other
pub ended : (a : Accumulator) (w nu : List Float) → length w ≡ 0 → Ok a ≡ products a w nu
unfolding products
ended a [] nu h = refl
ended a (x ∷ w) nu h = absurd (omega (arith, h))

pub ended_second : (a : Accumulator) (w nu : List Float) → length nu ≡ 0 → Ok a ≡ products a w nu
unfolding products
ended_second a [] nu h = refl
ended_second a (x ∷ w) [] h = refl
ended_second a (x ∷ w) (y ∷ nu) h = absurd (omega (arith, h))

none-left : (a : Accumulator) (w nu : List Float) → min (length w) (length nu) ≡ 0 → products a w nu ≡ Ok a
unfolding products
none-left a [] nu h = refl
none-left a (x ∷ w) [] h = refl
none-left a (x ∷ w) (y ∷ nu) h = absurd (omega (arith, h))

module _ (u : Float) (w nu : List Float) where
  pub count : (k : ℕ) → (row_sum u w nu k).products ≡ k
  unfolding row_sum turns with_free with_product EMPTY
  count zero = refl
  count (suc k) = ap (λ (n : ℕ). n + 1) (count k) ∙ add-one k

  -- a row's words are the products' folded onto those of its free motion
  pub row-state : (k : ℕ) → record {
    words = turns k (added (words 0) (free_term u)) (λ j l. added l (product_term (at w j) (at nu j)));
    products = k;
    free = true;
  } ≡ row_sum u w nu k
  unfolding row_sum turns with_free with_product EMPTY
  row-state zero = refl
  row-state (suc k) =
      ap (λ (n : ℕ). record { words = turns (suc k) (added (words 0) (free_term u)) (λ j l. added l (product_term (at w j) (at nu j))); products = n; free = true }) (sym (add-one k))
      ∙ ap (λ (a : Accumulator). with_product a (at w k) (at nu k)) (row-state k)

  pub row-many : 32 < shorter w nu → Err ExactFull ≡ row u w nu
  unfolding row
  row-many h = rw (lt-leb (shorter w nu) 32 h)

  module _ (few : shorter w nu ≤ 32) where
    unfit : is_finite u && every (both_finite w nu) (shorter w nu) ≡ false → Err NotFinite ≡ row u w nu
    unfolding row
    unfit h = rw (le-leb (shorter w nu) 32 few, h)

    -- one product
    pub taken : (k : ℕ) → k < shorter w nu → is_finite (at w k) && is_finite (at nu k) ≡ true → add_product (row_sum u w nu k) (at w k) (at nu k) ≡ Ok (row_sum u w nu (suc k))
    unfolding add_product row_sum turns
    taken k h e =
        let room : ltb (row_sum u w nu k).products 32 ≡ true = lt-ltb (row_sum u w nu k).products 32 (omega (arith, count k, h, few)) in
        rw (room, e)

    refused : (k : ℕ) → k < shorter w nu → is_finite (at w k) && is_finite (at nu k) ≡ false → add_product (row_sum u w nu k) (at w k) (at nu k) ≡ Err NotFinite
    unfolding add_product
    refused k h e =
        let room : ltb (row_sum u w nu k).products 32 ≡ true = lt-ltb (row_sum u w nu k).products 32 (omega (arith, count k, h, few)) in
        rw (room, e)

    unfit_at : (k : ℕ) → k < shorter w nu → is_finite (at w k) && is_finite (at nu k) ≡ false → Err NotFinite ≡ row u w nu
    unfolding both_finite
    unfit_at k h e = unfit (go (is_finite u && every (both_finite w nu) (shorter w nu)) refl)
      where
        go : (b : Bool) → is_finite u && every (both_finite w nu) (shorter w nu) ≡ b → b ≡ false
        go false f = refl
        go true f = sym (every-at (both_finite w nu) (shorter w nu) (both_true (is_finite u) (every (both_finite w nu) (shorter w nu)) f).1 k h) ∙ e

    -- the products from place k on
    module _ (first : is_finite u ≡ true) where
      from_place : (m k : ℕ) → k + m ≡ shorter w nu → every (both_finite w nu) k ≡ true → products (row_sum u w nu k) (drop k w) (drop k nu) ≡ row u w nu
      unfolding products row shorter every both_finite
      from_place zero k h e =
          let end : k ≡ shorter w nu = omega (arith, h) in
          none-left (row_sum u w nu k) (drop k w) (drop k nu) (omega (arith, h, length-drop k w, length-drop k nu))
          ∙ rw (sym end, le-leb k 32 (omega (arith, end, few)), first, e)
      from_place (suc m) k h e =
          let more : k < shorter w nu = omega (arith, h) in
          let x : drop k w ≡ at w k ∷ drop (suc k) w = drop-cons w k nan (omega (arith, more)) in
          let y : drop k nu ≡ at nu k ∷ drop (suc k) nu = drop-cons nu k nan (omega (arith, more)) in
          rw (x, y) (go (is_finite (at w k) && is_finite (at nu k)) refl more (from_place m (suc k) (omega (arith, h))))
        where
          go : (b : Bool) → is_finite (at w k) && is_finite (at nu k) ≡ b → k < shorter w nu
              → (every (both_finite w nu) (suc k) ≡ true → products (row_sum u w nu (suc k)) (drop (suc k) w) (drop (suc k) nu) ≡ row u w nu)
              → then (add_product (row_sum u w nu k) (at w k) (at nu k)) (λ (a : Accumulator). products a (drop (suc k) w) (drop (suc k) nu)) ≡ row u w nu
          go true f more next = rw (taken k more f) (next (rw (e, f)))
          go false f more next = rw (refused k more f) (unfit_at k more f)

    row-left : then (add_free EMPTY u) (λ (a : Accumulator). products a w nu) ≡ row u w nu
    unfolding add_free EMPTY row_sum turns every
    row-left = go (is_finite u) refl
      where
        go : (b : Bool) → is_finite u ≡ b → then (cond b (Ok (with_free EMPTY u)) (Err NotFinite)) (λ (a : Accumulator). products a w nu) ≡ row u w nu
        go true e = from_place e (shorter w nu) 0 (omega arith) refl
        go false e = unfit (rw e)

    pub begun : (a : Accumulator) → Ok a ≡ add_free EMPTY u → products a w nu ≡ row u w nu
    begun a h = ap (λ (x : Result Accumulator Refusal). then x (λ (b : Accumulator). products b w nu)) h ∙ row-left

    pub begin_refused : (r : Refusal) → Err r ≡ add_free EMPTY u → Err r ≡ row u w nu
    begin_refused r h = ap (λ (x : Result Accumulator Refusal). then x (λ (b : Accumulator). products b w nu)) h ∙ row-left
