-- A number rounded to a multiple of 2 * p, by the digit at p and by what is left below it. Assumes nothing.
use Prim.Native.Nat.{ℕ, suc, ◌+◌, ◌*◌, ◌/◌, ◌%◌, ◌<◌, compare, Ordering}
use mathlib.Core.Path.{◌≡◌, refl, sym, ap, ◌∙◌}
use mathlib.Core.Bool.{true, false, true≢false}
use native.Mathlib.Omega.{arith}
use native.Mathlib.Nat.{mul_comm, div-div-eq-div-mul, mod-lt}
use lib.Arith.{mod-mul}
use lib.Dec.{is_le, compare_is_eq}
use borrow.Author.Tests.{le-leb, lt-leb, eq-eqb, ne_eqb}
use lib.Ieee.{nearest}
use lib.Ieee.Nearest.{closest}

-- ---- `compare` by its tests

is_lt : (o : Ordering) → is_le o ≡ true → compare_is_eq o ≡ false → o ≡ Ordering.lt
is_lt Ordering.lt p q = refl
is_lt Ordering.eq p q = absurd (true≢false q)
is_lt Ordering.gt p q = absurd (true≢false (sym p))

is_eq : (o : Ordering) → compare_is_eq o ≡ true → o ≡ Ordering.eq
is_eq Ordering.lt p = absurd (true≢false (sym p))
is_eq Ordering.eq p = refl
is_eq Ordering.gt p = absurd (true≢false (sym p))

is_gt : (o : Ordering) → is_le o ≡ false → o ≡ Ordering.gt
is_gt Ordering.lt p = absurd (true≢false p)
is_gt Ordering.eq p = absurd (true≢false p)
is_gt Ordering.gt p = refl

differ : (a b : ℕ) → a < b → a ≡ b → ⊥
differ a b h e = omega arith

compare-lt : (a b : ℕ) → a < b → compare a b ≡ Ordering.lt
compare-lt a b h = is_lt (compare a b) (le-leb a b (omega arith)) (ne_eqb a b (differ a b h))

compare-eq : (a b : ℕ) → a ≡ b → compare a b ≡ Ordering.eq
compare-eq a b h = is_eq (compare a b) (eq-eqb a b h)

compare_gt : (a b : ℕ) → b < a → compare a b ≡ Ordering.gt
compare_gt a b h = is_gt (compare a b) (lt-leb a b h)

-- ---- h is the number without the digits below p

module _ (m p : ℕ) (P : 0 < p) where
  abbrev h : ℕ
  h = m / p

  whole : m / (2 * p) ≡ h / 2
  whole = ap (λ (x : ℕ). m / x) (mul_comm 2 p) ∙ sym (div-div-eq-div-mul m p 2)

  left : m % (2 * p) ≡ h % 2 * p + m % p
  left = mod-mul m {m = 2} {c = p} (omega arith) P

  by : (o : Ordering) → compare ((h % 2 * p + m % p) * 2) (2 * p) ≡ o → closest m (2 * p) ≡ nearest (h / 2) o
  by o e = ap (λ (x : ℕ). nearest x (compare (m % (2 * p) * 2) (2 * p))) whole ∙ ap (λ (x : ℕ). nearest (h / 2) (compare (x * 2) (2 * p))) left ∙ ap (nearest (h / 2)) e

  -- the digit at p is 0: down
  pub digit-zero : h % 2 ≡ 0 → h / 2 ≡ closest m (2 * p)
  digit-zero z =
      let s : m % p < p = mod-lt m P in
      let e : h % 2 * p ≡ 0 * p = ap (λ (x : ℕ). x * p) z in
      sym (by Ordering.lt (compare-lt ((h % 2 * p + m % p) * 2) (2 * p) (omega arith)))

  -- it is 1, and there is more: up
  pub more_than-half : h % 2 ≡ 1 → 0 < m % p → h / 2 + 1 ≡ closest m (2 * p)
  more_than-half z s =
      let e : h % 2 * p ≡ 1 * p = ap (λ (x : ℕ). x * p) z in
      let u : h / 2 + 1 ≡ suc (h / 2) = omega arith in
      u ∙ sym (by Ordering.gt (compare_gt ((h % 2 * p + m % p) * 2) (2 * p) (omega arith)))

  -- it is 1, and there is no more: a tie, to the even one
  pub tie : h % 2 ≡ 1 → m % p ≡ 0 → h / 2 + h / 2 % 2 ≡ closest m (2 * p)
  tie z s =
      let e : h % 2 * p ≡ 1 * p = ap (λ (x : ℕ). x * p) z in
      sym (by Ordering.eq (compare-eq ((h % 2 * p + m % p) * 2) (2 * p) (omega arith)))
