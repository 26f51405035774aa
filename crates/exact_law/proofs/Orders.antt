-- The law of specs/Law.antt: where the terms are within the limits, the calls of a sum leave what the terms' totals say, and totals do not depend on the order. Assumes nothing.
use Prim.Native.Nat.{ℕ, zero, suc, ◌+◌, ◌%◌, ◌≤◌}
use mathlib.Core.Path.{◌≡◌, refl, sym, ◌∙◌, ap}
use mathlib.Core.Bool.{Bool, true, false, not, cond, ◌&&◌, ◌||◌}
use mathlib.Core.List.{List, [], ◌∷◌, ◌++◌, Permᴰ}
use native.Mathlib.Nat.{zero-mod}
use native.Mathlib.Omega.{arith}
use lib.Dec.{ltb, leb}
use lib.Ieee.{Float}
use borrow.Author.Tests.{ltb-true, ltb-false, lt-ltb, le-ltb, le-leb}
use Rattle.floats.specs.Helpers.{is_finite}
use Rattle.accumulator.specs.Accumulators.{words, size, residue, free_term, product_term, added, EMPTY, with_free, with_product, add_free, add_product, meaning, sign_of}
use Rattle.nearest.specs.ToNearest.{nearest}
use Rattle.accumulator.specs.Joins.{joinable, joined, join}
use Rattle.accumulator.specs.declared.Accumulator.{Accumulator}
use Rattle.refusals.specs.declared.Refusal.{Refusal}
use Rattle.std.specs.Prelude.{Result, Ok}
use Rattle.exact_law.specs.Law as law
use Rattle.exact_law.specs.Law.{Sum, Term, terms, made, total, not_finite, is_free, is_product, Within, Same, AnyOrder}
use Rattle.exact_law.proofs.Totals.{total-append, total-perm}
use Rattle.exact_law.proofs.Words.{one_more, together}

-- ---- what the terms alone say of the sum

unfoldable residue_of : Term → ℕ
residue_of (law.free u) = residue (free_term u)
residue_of (law.product w v) = residue (product_term w v)

abbrev state : List ℕ → ℕ → Bool → Accumulator
state w p f = record { words = w; products = p; free = f }

abbrev told : List Term → Accumulator
told l = state (words (total residue_of l % size)) (total is_product l) (ltb 0 (total is_free l))

same-state : {w w' : List ℕ} {p p' : ℕ} {f f' : Bool} → w ≡ w' → p ≡ p' → f ≡ f' → state w p f ≡ state w' p' f'
same-state a b c = λ i. state (a i) (b i) (c i)

same-sum : {a b : Accumulator} → a ≡ b → ◌≡◌ {A = Result Accumulator Refusal} (Ok a) (Ok b)
same-sum e = ap Ok e

-- ---- tests within the limits

picked : (b : Bool) → ◌≡◌ {A = ℕ} (cond b 0 1) 0 → b ≡ true
picked true e = refl
picked false e = absurd (omega (arith, e))

one_free : (f g : ℕ) → f + g ≤ 1 → (b c : Bool) → ltb 0 f ≡ b → ltb 0 g ≡ c → (not (b && c) ≡ true) × (b || c ≡ ltb 0 (f + g))
one_free zero g h false c e d = let z : g ≡ 0 + g = omega arith in (refl, sym d ∙ ap (λ (x : ℕ). ltb 0 x) z)
one_free zero g h true c e d = absurd (omega (arith, ltb-true 0 0 e))
one_free (suc f) g h false c e d = absurd (omega (arith, ltb-false 0 (suc f) e))
one_free (suc f) g h true false e d = (refl, sym (lt-ltb 0 (suc f + g) (omega arith)))
one_free (suc f) g h true true e d = absurd (omega (arith, h, ltb-true 0 g d))

tail_within : (t : Term) (l : List Term) → Within (t ∷ l) → Within l
unfolding total
tail_within t l h = record { finite = omega (arith, h.finite); frees = omega (arith, h.frees); products = omega (arith, h.products) }

left-within : (l k : List Term) → Within (l ++ k) → Within l
left-within l k h = record {
  finite = omega (arith, h.finite, total-append not_finite l k);
  frees = omega (arith, h.frees, total-append is_free l k);
  products = omega (arith, h.products, total-append is_product l k);
}

right-within : (l k : List Term) → Within (l ++ k) → Within k
right-within l k h = record {
  finite = omega (arith, h.finite, total-append not_finite l k);
  frees = omega (arith, h.frees, total-append is_free l k);
  products = omega (arith, h.products, total-append is_product l k);
}

-- ---- one call more

free-added : (l : List Term) (u : Float) → Within (law.free u ∷ l) → add_free (told l) u ≡ Ok (told (law.free u ∷ l))
unfolding add_free with_free added total residue_of not_finite is_free is_product
free-added l u h =
    let f = total is_free l in
    let p = total is_product l in
    let finite : is_finite u ≡ true = picked (is_finite u) (omega (arith, h.finite)) in
    let none : ltb 0 f ≡ false = le-ltb 0 f (omega (arith, h.frees)) in
    let more : true ≡ ltb 0 (1 + f) = sym (lt-ltb 0 (1 + f) (omega arith)) in
    let same : p ≡ 0 + p = omega arith in
    rw (none, finite) (same-sum (same-state (one_more (total residue_of l) (residue (free_term u))) same more))

product-added : (l : List Term) (w v : Float) → Within (law.product w v ∷ l) → add_product (told l) w v ≡ Ok (told (law.product w v ∷ l))
unfolding add_product with_product added total residue_of not_finite is_free is_product
product-added l w v h =
    let f = total is_free l in
    let p = total is_product l in
    let finite : is_finite w && is_finite v ≡ true = picked (is_finite w && is_finite v) (omega (arith, h.finite)) in
    let room : ltb p 32 ≡ true = lt-ltb p 32 (omega (arith, h.products)) in
    let more : p + 1 ≡ 1 + p = omega arith in
    let z : f ≡ 0 + f = omega arith in
    let same : ltb 0 f ≡ ltb 0 (0 + f) = ap (λ (x : ℕ). ltb 0 x) z in
    rw (room, finite) (same-sum (same-state (one_more (total residue_of l) (residue (product_term w v))) more same))

both-joined : (l k : List Term) → Within (l ++ k) → join (told l) (told k) ≡ Ok (told (l ++ k))
unfolding join joinable joined
both-joined l k h =
    let p = total is_product l in
    let q = total is_product k in
    let f = total is_free l in
    let g = total is_free k in
    let few : leb (p + q) 32 ≡ true = le-leb (p + q) 32 (omega (arith, h.products, total-append is_product l k)) in
    let once = one_free f g (omega (arith, h.frees, total-append is_free l k)) (ltb 0 f) (ltb 0 g) refl refl in
    rw (few, once.0)
    (same-sum
    (same-state
    (together (total residue_of l) (total residue_of k) ∙ ap (λ (n : ℕ). words (n % size)) (sym (total-append residue_of l k)))
    (sym (total-append is_product l k))
    (once.1 ∙ ap (λ (n : ℕ). ltb 0 n) (sym (total-append is_free l k)))))

begun : EMPTY ≡ told []
unfolding total EMPTY
begun = same-state (ap words (sym (zero-mod size))) refl refl

made-is : (e : Sum) → Within (terms e) → made e ≡ Ok (told (terms e))
unfolding terms made
made-is law.empty h = same-sum begun
made-is (law.with_free e u) h = rw (made-is e (tail_within _ (terms e) h)) (free-added (terms e) u h)
made-is (law.with_product e w v) h = rw (made-is e (tail_within _ (terms e) h)) (product-added (terms e) w v h)
made-is (law.both d e) h =
    rw (made-is d (left-within (terms d) (terms e) h), made-is e (right-within (terms d) (terms e) h)) (both-joined (terms d) (terms e) h)

-- ---- any order

within-perm : {l k : List Term} → Permᴰ l k → Within l → Within k
within-perm d h = record {
  finite = sym (total-perm not_finite d) ∙ h.finite;
  frees = omega (arith, total-perm is_free d, h.frees);
  products = omega (arith, total-perm is_product d, h.products);
}

told-perm : {l k : List Term} → Permᴰ l k → told l ≡ told k
told-perm d =
    same-state (ap (λ (n : ℕ). words (n % size)) (total-perm residue_of d)) (total-perm is_product d) (ap (λ (n : ℕ). ltb 0 n) (total-perm is_free d))

pub any_order : AnyOrder
any_order d e perm h =
    let a = told (terms d) in
    let b = told (terms e) in
    let s : a ≡ b = told-perm perm in
    record {
      sum = a;
      sum_too = b;
      taken = made-is d h;
      taken_too = made-is e (within-perm perm h);
      words = ap (λ (x : Accumulator). x.words) s;
      products = ap (λ (x : Accumulator). x.products) s;
      free = ap (λ (x : Accumulator). x.free) s;
      sign = ap (λ (x : Accumulator). sign_of (meaning x.words)) s;
      rounded = ap (λ (x : Accumulator). nearest (meaning x.words)) s;
    }
