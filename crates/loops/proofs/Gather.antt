-- Numbers that a loop gathers, rising: what holds of each, and the front of a list that the loop fills with them.
use Prim.Native.Nat.{ℕ, zero, suc, ◌+◌, ◌≤◌, ◌<◌, zero-le}
use mathlib.Core.Path.{◌≡◌, refl}
use mathlib.Core.Bool.{Bool, true, false, cond}
use mathlib.Core.List.{List, [], ◌∷◌, ◌++◌}
use native.Mathlib.Omega.{arith}
use native.Mathlib.Nat.{not-suc-le-zero, le_of_suc-le-suc}
use lib.Dec.{eqb}
use lib.ListN.{length, get_or, set, length-append}
use lib.Seq.{get_or-set_same, get_or-set_other}
use native.Mathlib.Numerals.{add-one}
use borrow.Author.Tests.{eqb-true, eqb-false}
use Rattle.loops.specs.Loops.{turns, those, noted, counted, fronted}
use Rattle.loops.specs.Gathering.{Gathering}
use Rattle.loops.proofs.Paste.{pasted_snoc}

-- ---- a fact of each number of a list

module _ (P : ℕ → Type 0) where
  abbrev pub Each : List ℕ → Type 0
  Each [] = Unit {0}
  Each (a ∷ l) = P a × Each l

  pub each_snoc : (l : List ℕ) (i : ℕ) → Each l → P i → Each (l ++ (i ∷ []))
  each_snoc [] i h q = (q, tt)
  each_snoc (a ∷ l) i h q = (h.0, each_snoc l i h.1 q)

  pub each_at : (l : List ℕ) → Each l → (j : ℕ) → j < length l → P (get_or l j 0)
  each_at [] h j b = absurd (not-suc-le-zero b)
  each_at (a ∷ l) h zero b = h.0
  each_at (a ∷ l) h (suc j) b = each_at l h.1 j (le_of_suc-le-suc b)

pub each_map : {P Q : ℕ → Type 0} → ((a : ℕ) → P a → Q a) → (l : List ℕ) → Each P l → Each Q l
each_map f [] h = tt
each_map f (a ∷ l) h = (f a h.0, each_map f l h.1)

-- ---- rising numbers: each above the one before, the first not under a

abbrev pub From : ℕ → List ℕ → Type 0
From a [] = Unit {0}
From a (b ∷ l) = (a ≤ b) × From (suc b) l

abbrev pub Rising : List ℕ → Type 0
Rising l = From 0 l

from_snoc : (a : ℕ) (l : List ℕ) (i : ℕ) → a ≤ i → From a l → Each (λ b. b < i) l → From a (l ++ (i ∷ []))
from_snoc a [] i h f e = (h, tt)
from_snoc a (b ∷ l) i h f e = (f.0, from_snoc (suc b) l i e.0 f.1 e.1)

-- numbers below i that pass, rising
pub record Gathered (P : ℕ → Type 0) (i : ℕ) (l : List ℕ) : Type 0 where
  pub rising : Rising l
  pub below : Each (λ a. a < i) l
  pub passing : Each P l

pub gathered_none : {P : ℕ → Type 0} → Gathered P 0 []
gathered_none = record { rising = tt; below = tt; passing = tt }

pub gathered_skip : {P : ℕ → Type 0} (i : ℕ) (l : List ℕ) → Gathered P i l → Gathered P (suc i) l
gathered_skip i l g = record { rising = g.rising; below = each_map (λ a h. omega arith) l g.below; passing = g.passing }

pub gathered-take : {P : ℕ → Type 0} (i : ℕ) (l : List ℕ) → P i → Gathered P i l → Gathered P (suc i) (l ++ (i ∷ []))
gathered-take {P} i l q g =
    record {
      rising = from_snoc 0 l i zero-le g.rising g.below;
      below = each_snoc (λ a. a < suc i) l i (each_map (λ a h. omega arith) l g.below) (omega arith);
      passing = each_snoc P l i g.passing q;
    }

pub those-gathered : (test : ℕ → Bool) (k : ℕ) → Gathered (λ i. test i ≡ true) k (those test k)
unfolding those turns
those-gathered test zero = gathered_none
those-gathered test (suc k) = go (those test k) (those-gathered test k) (test k) refl
  where
    go : (l : List ℕ) → Gathered (λ i. test i ≡ true) k l → (b : Bool) → test k ≡ b → Gathered (λ i. test i ≡ true) (suc k) (cond b (l ++ (k ∷ [])) l)
    go l g true e = gathered-take k l e g
    go l g false e = gathered_skip k l g

-- ---- the front of a list that a loop fills with the numbers that pass

grows : (l : List ℕ) (i : ℕ) (b : Bool) → length l ≤ i → length (cond b (l ++ (i ∷ [])) l) ≤ suc i
grows l i true h = omega (arith, length-append l (i ∷ []))
grows l i false h = omega arith

pub those-le : (test : ℕ → Bool) (i : ℕ) → length (those test i) ≤ i
unfolding those turns
those-le test zero = omega arith
those-le test (suc i) = grows (those test i) i (test i) (those-le test i)

pub those-take : (test : ℕ → Bool) (i : ℕ) → test i ≡ true → those test (suc i) ≡ those test i ++ (i ∷ [])
unfolding those turns
those-take test i h = rw h

pub those_skip : (test : ℕ → Bool) (i : ℕ) → test i ≡ false → those test (suc i) ≡ those test i
unfolding those turns
those_skip test i h = rw h

-- an element after a store
pub get_d_set : {A : Type 0} (l : List A) (i j : ℕ) (v d : A) → i < length l → get_or (set l i v) j d ≡ cond (eqb j i) v (get_or l j d)
get_d_set l i j v d h = go (eqb j i) refl
  where
    go : (b : Bool) → eqb j i ≡ b → get_or (set l i v) j d ≡ cond b v (get_or l j d)
    go true e = rw (eqb-true j i e) (get_or-set_same l i v d h)
    go false e = get_or-set_other l i j v d (eqb-false j i e)

-- ---- the same by `noted` and `counted`, in the form in which `search` applies it

pub fronted_snoc : (r l : List ℕ) (a : ℕ) → set (fronted r l) (length r) a ≡ fronted (r ++ (a ∷ [])) l
fronted_snoc r l a = pasted_snoc r l a

module _ (test : ℕ → Bool) (l₀ : List ℕ) where
  pub gather-start : Gathering test l₀ 0 0 l₀
  unfolding those turns
  gather-start = record { count = refl; front = refl }

  pub gather_again : (i k : ℕ) (l : List ℕ) (k' : ℕ) (l' : List ℕ) → Gathering test l₀ i k l → k' ≡ counted (test i) k → l' ≡ noted (test i) l k i → Gathering test l₀ (i + 1) k' l'
  unfolding counted noted
  gather_again i k l k' l' g e f = go (test i) refl e f
    where
      go : (b : Bool) → test i ≡ b → k' ≡ cond b (suc k) k → l' ≡ cond b (set l k i) l → Gathering test l₀ (i + 1) k' l'
      go true t e f =
          rw (add-one i)
          (record {
            count = rw (those-take test i t, e, g.count) (simp length-append (omega arith));
            front = rw (those-take test i t, f, g.front, g.count) (fronted_snoc (those test i) l₀ i);
          })
      go false t e f = rw (add-one i) (record { count = rw (those_skip test i t, e) g.count; front = rw (those_skip test i t, f) g.front })

  pub gather_done : (i n k : ℕ) (l : List ℕ) → i ≤ n → n ≤ i → Gathering test l₀ i k l → Gathering test l₀ n k l
  gather_done i n k l a b g = let e : i ≡ n = omega arith in rw (← e) g

  -- a count is never above the turns made
  pub gather-le : (i k : ℕ) (l : List ℕ) → Gathering test l₀ i k l → k ≤ i
  gather-le i k l g = omega (arith, those-le test i, g.count)

  -- the same, by what the test says of i
  pub gather_take : (i k : ℕ) (l : List ℕ) → Gathering test l₀ i k l → test i ≡ true → Gathering test l₀ (i + 1) (k + 1) (set l k i)
  unfolding counted noted
  gather_take i k l g t = gather_again i k l (k + 1) (set l k i) g (rw t (add-one k)) (rw t)

  pub gather_skip : (i k : ℕ) (l : List ℕ) → Gathering test l₀ i k l → test i ≡ false → Gathering test l₀ (i + 1) k l
  unfolding counted noted
  gather_skip i k l g t = gather_again i k l k l g (rw t) (rw t)
