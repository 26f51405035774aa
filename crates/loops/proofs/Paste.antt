-- A list copied to the front of another, as a loop does it, and read there.
use Prim.Native.Nat.{ℕ, suc, ◌+◌, ◌≤◌, ◌<◌}
use mathlib.Core.Path.{◌≡◌, refl, ◌∙◌}
use mathlib.Core.List.{List, [], ◌∷◌, ◌++◌, append-nil}
use native.Mathlib.Omega.{arith}
use native.Mathlib.Numerals.{add-one}
use native.Mathlib.Nat.{add-zero, zero-add}
use lib.ListN.{length, get_or, set, take, drop_of_length-le}
use lib.Seq.{sets, sets-eq, take-suc, take_all, take_at, length-take-le}
use Rattle.loops.specs.Loops.{pasted}

module _ {A : Type 0} where
  sets_snoc : (l : List A) (i : ℕ) (r : List A) (a : A) → set (sets l i r) (i + length r) a ≡ sets l i (r ++ (a ∷ []))
  sets_snoc l i [] a = rw add-zero
  sets_snoc l i (x ∷ r) a = let e : i + suc (length r) ≡ suc i + length r = omega arith in rw e (sets_snoc (set l i x) (suc i) r a)

  pub pasted_snoc : (r l : List A) (a : A) → set (pasted r l) (length r) a ≡ pasted (r ++ (a ∷ [])) l
  pasted_snoc r l a = rw (← zero-add (length r)) (sets_snoc l 0 r a)

module _ {A : Type 0} (l l₀ : List A) where
  pub front-start : l₀ ≡ pasted (take 0 l) l₀
  front-start = refl

  pub front_again : (i : ℕ) (d : A) (s t : List A) → s ≡ pasted (take i l) l₀ → i < length l → t ≡ set s i (get_or l i d) → t ≡ pasted (take (i + 1) l) l₀
  front_again i d s t e h f =
      let q : length (take i l) ≡ i = length-take-le i l (omega arith) in
      rw (add-one i, take-suc l i d h, f, e, ← pasted_snoc (take i l) l₀ (get_or l i d), q)

  pub front_done : (i : ℕ) (s : List A) → s ≡ pasted (take i l) l₀ → length l ≤ i → s ≡ pasted l l₀
  front_done i s e h = e ∙ rw (take_all i l h)

  pub front_read : (k : ℕ) → k ≡ length l → length l ≤ length l₀ → take k (pasted l l₀) ≡ l
  front_read k e h = rw (e, sets-eq l l₀ 0 (omega arith)) (take_at l _ (length l) refl)

  -- over a list as long it is the list itself
  pub front-whole : length l₀ ≡ length l → pasted l l₀ ≡ l
  front-whole e = rw (sets-eq l l₀ 0 (omega arith), drop_of_length-le l₀ {i = 0 + length l} (omega arith)) (append-nil l)
