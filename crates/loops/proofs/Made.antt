-- What `array::from_fn` makes, where a call of its closure at i gives s i and the closure stays as it is.
use Rattle.std.proofs.Common.{◌≡◌, ℕ, zero, suc, ◌+◌, ◌≤◌, ◌<◌, List, Bool, true, false, leb, refl, arith}
use borrow.Author.Tests.{leb-true, leb-false}
use Rattle.std.specs.Array.{IsFromFnResult, IsFromFnResultFrom, IsElementAt}
use denote.Param.Members.{Mut, Called}

module _ {F B : Type 0} (g : Mut F (ℕ × Unit {0}) B) (s : ℕ → B) (Kept : F → Type 0) (turn : (f q : F) (i : ℕ) (y : B) → Kept f → Called g f (i, tt) y q → (y ≡ s i) × Kept q) where
  each-is : (n i : ℕ) (f : F) (ys : List B) → Kept f → IsFromFnResultFrom g f ys i n → (k : ℕ) → i ≤ k → k < i + n → IsElementAt ys k (s k)
  each-is zero i f ys kept h k b e = absurd (omega arith)
  each-is (suc n) i f ys kept (q, y, is, called, more) k b e =
      let t = turn f q i y kept called in
      split (leb k i) refl t.0 λ h. each-is n (i + 1) q ys t.1 more k h (omega arith)
    where
      split : (x : Bool) → leb k i ≡ x → y ≡ s i → (i + 1 ≤ k → IsElementAt ys k (s k)) → IsElementAt ys k (s k)
      split true h t later = let same : k ≡ i = omega (arith, leb-true k i h) in rw (same, ← t) is
      split false h t later = later (omega (arith, leb-false k i h))

  pub made : (n : ℕ) (f : F) (ys : List B) → Kept f → IsFromFnResult g f ys n → (k : ℕ) → k < n → IsElementAt ys k (s k)
  made n f ys kept h k b = each-is n 0 f ys kept h.each k (omega arith) (omega arith)
