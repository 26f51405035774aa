-- A step of an exact pass writes every free row and no other: each has what it had, and so far along its direction.
use Prim.Native.Nat.{ℕ, zero, suc, ◌≤◌, ◌<◌}
use mathlib.Core.Path.{◌≡◌, refl, sym, ◌∙◌, ap}
use mathlib.Core.Bool.{Bool, true, false, cond, true≢false}
use mathlib.Core.List.{List, [], ◌∷◌, ◌++◌}
use native.Mathlib.Omega.{arith}
use native.Mathlib.Nat.{not-suc-le-zero, le_of_suc-le-suc}
use lib.Arith.{lt_of_le-ne}
use lib.Dec.{eqb}
use lib.ListN.{length, get_or, set, replicate, length-set, length-append, length-replicate}
use lib.Seq.{get_or-set_same, get_or-set_other}
use lib.Ieee.{Float, nan}
use borrow.Author.Tests.{eqb-true, eqb-false, eq-eqb}
use Rattle.loops.specs.Loops.{turns, those}
use Rattle.loops.proofs.Turns.{turns_keep}
use Rattle.loops.proofs.Gather.{From, Rising, those-gathered, each_at}
use Rattle.floats.specs.Ops.{◌⊕◌, ◌⊗◌, at, 0ᶠ}
use Rattle.box_rows.specs.Rows.{state}
use Rattle.exact_pass.specs.Pass.{free_rows, scattered, advance}
use Rattle.exact_pass.specs.Private.{is_free}

-- ---- a rising list has no number twice

from-least : (a : ℕ) (l : List ℕ) → From a l → (k : ℕ) → k < length l → a ≤ get_or l k 0
from-least a [] f k h = absurd (not-suc-le-zero h)
from-least a (b ∷ l) f zero h = f.0
from-least a (b ∷ l) f (suc k) h = let q = from-least (suc b) l f.1 k (le_of_suc-le-suc h) in let r = f.0 in omega arith

apart : (a : ℕ) (l : List ℕ) → From a l → (j k : ℕ) → j < k → k < length l → get_or l j 0 < get_or l k 0
apart a [] f j k b h = absurd (not-suc-le-zero h)
apart a (c ∷ l) f j zero b h = absurd (not-suc-le-zero b)
apart a (c ∷ l) f zero (suc k) b h = from-least (suc c) l f.1 k (le_of_suc-le-suc h)
apart a (c ∷ l) f (suc j) (suc k) b h = apart (suc c) l f.1 j k (le_of_suc-le-suc b) (le_of_suc-le-suc h)

-- ---- each number that passes has a place among those

record Place (l : List ℕ) (i : ℕ) : Type 0 where
  place : ℕ
  within : place < length l
  here : get_or l place 0 ≡ i

front_at : (l : List ℕ) (a j : ℕ) → j < length l → get_or (l ++ (a ∷ [])) j 0 ≡ get_or l j 0
front_at [] a j h = absurd (not-suc-le-zero h)
front_at (b ∷ l) a zero h = refl
front_at (b ∷ l) a (suc j) h = front_at l a j (le_of_suc-le-suc h)

last-at : (l : List ℕ) (a : ℕ) → get_or (l ++ (a ∷ [])) (length l) 0 ≡ a
last-at [] a = refl
last-at (b ∷ l) a = last-at l a

those-place : (test : ℕ → Bool) (k i : ℕ) → i < k → test i ≡ true → Place (those test k) i
unfolding those turns
those-place test zero i b e = absurd (not-suc-le-zero b)
those-place test (suc k) i b e = go (those test k) (λ c. those-place test k i c e) (eqb i k) refl (test k) refl
  where
    go : (l : List ℕ) → (i < k → Place l i) → (q : Bool) → eqb i k ≡ q → (c : Bool) → test k ≡ c → Place (cond c (l ++ (k ∷ [])) l) i
    go l h true d true f = record { place = length l; within = omega (arith, length-append l (k ∷ [])); here = last-at l k ∙ sym (eqb-true i k d) }
    go l h true d false f = absurd (true≢false (sym e ∙ ap test (eqb-true i k d) ∙ f))
    go l h false d true f =
        let g = h (lt_of_le-ne (le_of_suc-le-suc b) (eqb-false i k d)) in
        let w = g.within in
        record { place = g.place; within = omega (arith, length-append l (k ∷ [])); here = front_at l k g.place g.within ∙ g.here }
    go l h false d false f = h (lt_of_le-ne (le_of_suc-le-suc b) (eqb-false i k d))

-- ---- a loop that writes each row of a rising list once, from what stands there

module _ (l : List ℕ) (rising : Rising l) (f : ℕ → Float → Float) (nu : List Float) (room : (j : ℕ) → j < length l → get_or l j 0 < length nu) where
  abbrev write_row : ℕ → List Float → List Float
  write_row i x = set x (get_or l i 0) (f i (at x (get_or l i 0)))

  -- after k of the rows
  record So (k : ℕ) (x : List Float) : Type 0 where
    long : length x ≡ length nu
    done : (j : ℕ) → j < k → j < length l → at x (get_or l j 0) ≡ f j (at nu (get_or l j 0))
    left : (j : ℕ) → k ≤ j → j < length l → at x (get_or l j 0) ≡ at nu (get_or l j 0)
    other : (i : ℕ) → ((j : ℕ) → j < length l → i ≡ get_or l j 0 → ⊥) → at x i ≡ at nu i

  one_more : (i : ℕ) (x : List Float) → i < length l → So i x → So (suc i) (write_row i x)
  one_more i x b h =
      record {
        long = length-set x (get_or l i 0) (f i (at x (get_or l i 0))) ∙ h.long;
        done = λ j c d. go j c d (eqb j i) refl;
        left = λ j c d. get_or-set_other x (get_or l i 0) (get_or l j 0) (f i (at x (get_or l i 0))) nan (λ e. let q = apart 0 l rising i j c d in omega (arith, e, q)) ∙ h.left j (omega arith) d;
        other = λ j c. get_or-set_other x (get_or l i 0) j (f i (at x (get_or l i 0))) nan (c i b) ∙ h.other j c;
      }
    where
      same : at (set x (get_or l i 0) (f i (at x (get_or l i 0)))) (get_or l i 0) ≡ f i (at nu (get_or l i 0))
      same =
          let q = room i b in
          let r = h.long in
          get_or-set_same x (get_or l i 0) (f i (at x (get_or l i 0))) nan (omega (arith, q, r)) ∙ ap (f i) (h.left i (omega arith) b)

      go : (j : ℕ) → j < suc i → j < length l → (c : Bool) → eqb j i ≡ c
          → at (set x (get_or l i 0) (f i (at x (get_or l i 0)))) (get_or l j 0) ≡ f j (at nu (get_or l j 0))
      go j c d true e = rw (eqb-true j i e) same
      go j c d false e =
          let g = lt_of_le-ne (le_of_suc-le-suc c) (eqb-false j i e) in
          let q = apart 0 l rising j i g b in
          get_or-set_other x (get_or l i 0) (get_or l j 0) (f i (at x (get_or l i 0))) nan (λ z. omega (arith, z, q)) ∙ h.done j g d

  written : So (length l) (turns (length l) nu write_row)
  written =
      turns_keep write_row nu So (length l)
      (record { long = refl; done = λ j c d. absurd (not-suc-le-zero c); left = λ j c d. refl; other = λ i c. refl })
      one_more

-- ---- the free rows

-- no row is free where none is listed
pub none_free : (st : List ℕ) (n i : ℕ) → free_rows st n ≡ [] → i < n → state st i ≡ 0 → ⊥
none_free st n i z b e = let p = those-place (is_free st) n i b (eq-eqb (state st i) 0 e) in not-suc-le-zero (rw z at p.within)

module _ (st : List ℕ) (n : ℕ) where
  pub free-below : (j : ℕ) → j < length (free_rows st n) → get_or (free_rows st n) j 0 < n
  free-below j b = each_at (λ a. a < n) (free_rows st n) (those-gathered (is_free st) n).below j b

  pub free-is : (j : ℕ) → j < length (free_rows st n) → state st (get_or (free_rows st n) j 0) ≡ 0
  free-is j b =
      eqb-true (state st (get_or (free_rows st n) j 0)) 0 (each_at (λ i. is_free st i ≡ true) (free_rows st n) (those-gathered (is_free st) n).passing j b)

  module _ (f : ℕ → Float → Float) (nu : List Float) (long : length nu ≡ n) where
    free-written : So (free_rows st n) (those-gathered (is_free st) n).rising f nu (λ j b. let q = free-below j b in omega (arith, q, long)) (length (free_rows st n))
        (turns (length (free_rows st n)) nu λ i x. set x (get_or (free_rows st n) i 0) (f i (at x (get_or (free_rows st n) i 0))))
    free-written = written (free_rows st n) (those-gathered (is_free st) n).rising f nu (λ j b. let q = free-below j b in omega (arith, q, long))

  module _ (y : List Float) (alpha : Float) (nu : List Float) (long : length nu ≡ n) where
    abbrev advanced : List Float
    advanced = advance (free_rows st n) y alpha nu (length (free_rows st n))

    pub advanced-long : length advanced ≡ n
    unfolding advance
    advanced-long = (free-written (λ i v. v ⊕ alpha ⊗ at y i) nu long).long ∙ long

    pub advanced_other : (i : ℕ) → (state st i ≡ 0 → ⊥) → at advanced i ≡ at nu i
    unfolding advance
    advanced_other i h = (free-written (λ i v. v ⊕ alpha ⊗ at y i) nu long).other i (λ j b e. h (ap (state st) e ∙ free-is j b))

    pub advanced-at : (i : ℕ) → i < n → state st i ≡ 0
        → at advanced i ≡ at nu i ⊕ alpha ⊗ at (scattered (free_rows st n) y (replicate n 0ᶠ) (length (free_rows st n))) i
    unfolding advance scattered
    advanced-at i b e =
        let p = those-place (is_free st) n i b (eq-eqb (state st i) 0 e) in
        let moved = (free-written (λ i v. v ⊕ alpha ⊗ at y i) nu long).done p.place p.within p.within in
        let along = (free-written (λ i v. at y i) (replicate n 0ᶠ) (length-replicate n 0ᶠ)).done p.place p.within p.within in
        (rw p.here at moved) ∙ ap (λ (v : Float). at nu i ⊕ alpha ⊗ v) (sym (rw p.here at along))
