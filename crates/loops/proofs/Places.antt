-- A loop that sets place π t of a list at turn t, from what stands there and at place ρ t, which no turn sets: what stands at each place afterwards.
use Prim.Native.Nat.{ℕ, zero, suc, ◌+◌, ◌-◌, ◌≤◌, ◌<◌}
use mathlib.Core.Path.{◌≡◌, sym}
use mathlib.Core.List.{List}
use mathlib.Core.Logic.{⊎_elim}
use native.Mathlib.Omega.{arith}
use native.Mathlib.Nat.{add-zero, add-suc, eq-or-lt_of_le}
use lib.ListN.{length, get_or, set, length-set}
use lib.Seq.{get_or-set_same, get_or-set_other}
use Rattle.loops.specs.Loops.{between}
use Rattle.loops.proofs.Turns.{between_start, between_step}

module _ {A : Type 0} (z : A) (π ρ : ℕ → ℕ) (w : ℕ → A → A → A) (i : ℕ) (a : List A) where
  abbrev at : List A → ℕ → A
  at l p = get_or l p z

  fold : ℕ → List A
  fold k = between i k a λ t b. set b (π t) (w t (at b (π t)) (at b (ρ t)))

  fold-length : (d : ℕ) → length (fold (i + d)) ≡ length a
  unfolding fold
  fold-length zero = rw (add-zero, between_start)
  fold-length (suc d) = rw (add-suc, between_step _ _ i (i + d) (omega arith), length-set) (fold-length d)

  fold_away : (d p : ℕ) → ((t : ℕ) → i ≤ t → t < i + d → p ≡ π t → ⊥) → at (fold (i + d)) p ≡ at a p
  unfolding fold
  fold_away zero p h = rw (add-zero, between_start)
  fold_away (suc d) p h =
      rw (add-suc, between_step _ _ i (i + d) (omega arith), get_or-set_other (fold (i + d)) (π (i + d)) p (w (i + d) (at (fold (i + d)) (π (i + d))) (at (fold (i + d)) (ρ (i + d)))) z (h (i + d) (omega arith) (omega arith)))
      (fold_away d p (λ t g l. h t g (omega arith)))

  module _ (apart : (t u : ℕ) → t < u → π u ≡ π t → ⊥) (free : (t u : ℕ) → i ≤ u → ρ t ≡ π u → ⊥) where
    fold_here : (d t : ℕ) → i ≤ t → t < i + d → π t < length a → at (fold (i + d)) (π t) ≡ w t (at a (π t)) (at a (ρ t))
    unfolding fold
    fold_here zero t l u h = absurd (omega arith)
    fold_here (suc d) t l u h =
        let q : t ≤ i + d = omega arith in
        ⊎_elim
        (λ (e : t ≡ i + d).
        rw (add-suc, between_step _ _ i (i + d) (omega arith), ← e, get_or-set_same (fold t) (π t) (w t (at (fold t) (π t)) (at (fold t) (ρ t))) z (rw e (omega (arith, fold-length d, rw e at h))))
        (rw e (rw (fold_away d (π (i + d)) (λ v g k. apart v (i + d) k), fold_away d (ρ (i + d)) (λ v g k. free (i + d) v g)))))
        (λ (e : t < i + d).
        rw (add-suc, between_step _ _ i (i + d) (omega arith), get_or-set_other (fold (i + d)) (π (i + d)) (π t) (w (i + d) (at (fold (i + d)) (π (i + d))) (at (fold (i + d)) (ρ (i + d)))) z (λ f. apart t (i + d) e (sym f)))
        (fold_here d t l e h))
        (eq-or-lt_of_le q)

    pub here : (k t : ℕ) → i ≤ t → t < k → π t < length a → at (between i k a λ t b. set b (π t) (w t (at b (π t)) (at b (ρ t)))) (π t) ≡ w t (at a (π t)) (at a (ρ t))
    unfolding fold
    here k t l u h = let q : k ≡ i + (k - i) = omega arith in rw q (fold_here (k - i) t l (omega arith) h)

  pub long : (k : ℕ) → i ≤ k → length (between i k a λ t b. set b (π t) (w t (at b (π t)) (at b (ρ t)))) ≡ length a
  unfolding fold
  long k g = let q : k ≡ i + (k - i) = omega arith in rw q (fold-length (k - i))
