-- Sums over two lists together, entry by entry, and the same by index.
use Prim.Native.Nat.{ℕ, zero, suc, ◌+◌, ◌-◌, ◌≤◌, ◌<◌}
use mathlib.Core.Path.{◌≡◌, refl, sym, ◌∙◌, ap}
use mathlib.Core.List.{List, [], ◌∷◌}
use native.Mathlib.Omega.{arith}
use lib.ListN.{length, get_or, set, drop, length-drop}
use lib.Seq.{length-take-le, set_out}
use lib.Ieee.{Float, nan}
use Rattle.std.proofs.lemmas.List.{get_or-take, get_or-drop, nil_from_length}
use Rattle.std.specs.Prelude.{slice_range}
use Rattle.loops.specs.Loops.{turns}
use Rattle.loops.proofs.Turns.{between_start, between_first, between_shift}
use Rattle.floats.specs.Ops.{◌⊗◌, at}
use Rattle.floats.specs.Sums.{gathered}
use Rattle.floats.proofs.Sums.{gathered_ext}
use Rattle.least_norm.specs.Private.{paired}
use Rattle.least_norm.specs.Starts.{unpermuted, scattered}

module _ (op : Float → Float → Float) where
  paired_none : (s : Float) (x : List Float) → paired op s x [] ≡ s
  unfolding paired
  paired_none s [] = refl
  paired_none s (a ∷ x) = refl

  -- where one list has ended
  pub paired-ended : (s : Float) (x y : List Float) → length x ≡ 0 → s ≡ paired op s x y
  unfolding paired
  paired-ended s x y e = rw (nil_from_length x e) refl

  pub paired-ended-2 : (s : Float) (x y : List Float) → length y ≡ 0 → s ≡ paired op s x y
  paired-ended-2 s x y e = rw (nil_from_length y e) (sym (paired_none s x))

  paired_all : (x y : List Float) (s : Float) → length x ≡ length y
      → paired op s x y ≡ gathered op s (λ t. at x t ⊗ at y t) 0 (length x)
  unfolding paired gathered
  paired_all [] y s e = sym (between_start _ _ _)
  paired_all (a ∷ x) [] s e = absurd (omega arith)
  paired_all (a ∷ x) (b ∷ y) s e =
      let z : suc (length x) ≡ 1 + length x = omega arith in
      let f : ℕ → Float → Float = λ t r. op r (at (a ∷ x) t ⊗ at (b ∷ y) t) in
      let g : (t : ℕ) → at x t ⊗ at y t ≡ at (a ∷ x) (1 + t) ⊗ at (b ∷ y) (1 + t) = λ t. let u : 1 + t ≡ suc t = omega arith in rw u refl in
      paired_all x y (op s (a ⊗ b)) (omega arith)
      ∙ gathered_ext op (op s (a ⊗ b)) _ 0 _ (length x) (omega arith) (λ t l u. g t)
      ∙ sym (between_shift (op s (a ⊗ b)) f 1 (length x))
      ∙ rw (← z) refl
      ∙ sym (between_first s f 0 (suc (length x)) (omega arith))

  module _ (x y : List Float) (lo hi : ℕ) (some : lo ≤ hi) (in-x : hi ≤ length x) (in-y : hi ≤ length y) where
    part-length : (l : List Float) → hi ≤ length l → length (slice_range l lo hi) ≡ hi - lo
    part-length l h = length-take-le (hi - lo) (drop lo l) (omega (arith, length-drop lo l))

    part_at : (l : List Float) (t : ℕ) → t < hi - lo → at (slice_range l lo hi) t ≡ at l (lo + t)
    part_at l t h = rw (get_or-take (hi - lo) (drop lo l) t nan h, get_or-drop)

    pub paired-is : (s : Float)
        → paired op s (slice_range x lo hi) (slice_range y lo hi) ≡ gathered op s (λ t. at x t ⊗ at y t) lo hi
    unfolding gathered
    paired-is s =
        let q : hi ≡ lo + (hi - lo) = omega arith in
        paired_all (slice_range x lo hi) (slice_range y lo hi) s (part-length x in-x ∙ sym (part-length y in-y))
        ∙ rw (part-length x in-x)
        (gathered_ext op s _ 0 (λ t. at x (lo + t) ⊗ at y (lo + t)) (hi - lo) (omega arith) (λ t l u. rw (part_at x t u, part_at y t u)))
        ∙ sym (between_shift s (λ t r. op r (at x t ⊗ at y t)) lo (hi - lo))
        ∙ rw (← q) refl

-- ---- the columns' order

turns_first : {S : Type 0} (k : ℕ) (s : S) (f : ℕ → S → S) → turns (suc k) s f ≡ turns k (f 0 s) (λ t. f (suc t))
unfolding turns
turns_first zero s f = refl
turns_first (suc k) s f = ap (f (suc k)) (turns_first k s f)

scattered_none : (x : List Float) (perm : List ℕ) → scattered x perm [] ≡ x
unfolding scattered
scattered_none x [] = refl
scattered_none x (p ∷ perm) = refl

pub scattered-ended : (x : List Float) (perm : List ℕ) (y : List Float) → length perm ≡ 0 → x ≡ scattered x perm y
unfolding scattered
scattered-ended x perm y e = rw (nil_from_length perm e) refl

pub scattered-ended-2 : (x : List Float) (perm : List ℕ) (y : List Float) → length y ≡ 0 → x ≡ scattered x perm y
scattered-ended-2 x perm y e = rw (nil_from_length y e) (sym (scattered_none x perm))

-- where there is no such place of x, to set it is nothing
pub scattered_out : (x : List Float) (p : ℕ) (perm : List ℕ) (v : Float) (y : List Float) → length x ≤ p
    → scattered x (p ∷ perm) (v ∷ y) ≡ scattered x perm y
unfolding scattered
scattered_out x p perm v y h = rw (set_out x p v h) refl

pub scattered-is : (x : List Float) (perm : List ℕ) (y : List Float) → length y ≡ length perm
    → scattered x perm y ≡ unpermuted x perm y (length perm)
unfolding scattered unpermuted turns
scattered-is x [] y e = refl
scattered-is x (p ∷ perm) [] e = absurd (omega arith)
scattered-is x (p ∷ perm) (v ∷ y) e =
    scattered-is (set x p v) perm y (omega arith)
    ∙ sym (turns_first (length perm) x (λ j x. set x (get_or (p ∷ perm) j 0) (at (v ∷ y) j)))
