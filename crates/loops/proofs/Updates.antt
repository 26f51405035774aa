-- The laws of in-place loops: where each starts, its next turn and its end, in the form in which `search` applies them; what stands at each place afterwards; and
-- that two loops whose turns agree are the same.
use Prim.Native.Nat.{ℕ, zero, suc, ◌+◌, ◌-◌, ◌≤◌, ◌<◌}
use mathlib.Core.Path.{◌≡◌, sym, ◌∙◌, ap}
use mathlib.Core.List.{List}
use mathlib.Core.Logic.{⊎_elim}
use native.Mathlib.Omega.{arith}
use native.Mathlib.Numerals.{add-one}
use native.Mathlib.Nat.{add-zero, add-suc, eq-or-lt_of_le}
use lib.ListN.{length, get_or, set, length-set}
use lib.Seq.{get_or-set_same, get_or-set_other}
use Rattle.loops.specs.Loops.{between}
use Rattle.loops.specs.Updates.{updated}
use Rattle.loops.proofs.Turns.{between_start, between_step}

-- ---- loops whose turns agree

module _ {S : Type 0} (s : S) (f g : ℕ → S → S) (a : ℕ) where
  ext_more : (d : ℕ) → ((t : ℕ) (x : S) → a ≤ t → t < a + d → f t x ≡ g t x) → between a (a + d) s f ≡ between a (a + d) s g
  ext_more zero h = rw (add-zero, between_start, between_start)
  ext_more (suc d) h =
      rw (add-suc, between_step _ _ a (a + d) (omega arith), between_step _ _ a (a + d) (omega arith))
      (h (a + d) (between a (a + d) s f) (omega arith) (omega arith) ∙ ap (g (a + d)) (ext_more d λ t x l u. h t x l (omega arith)))

  pub between_ext : (b : ℕ) → a ≤ b → ((t : ℕ) (x : S) → a ≤ t → t < b → f t x ≡ g t x) → between a b s f ≡ between a b s g
  between_ext b l h = let q : b ≡ a + (b - a) = omega arith in rw q (ext_more (b - a) λ t x m u. h t x m (omega arith))

-- ---- one loop

module _ {A : Type 0} (z : A) (π : ℕ → ℕ) (g : ℕ → A → A) (a : ℕ) (l : List A) where
  pub updated-start : l ≡ updated z π g a a l
  unfolding updated
  updated-start = sym (between_start _ _ _)

  pub updated-step : (k : ℕ) → a ≤ k → updated z π g a (suc k) l ≡ set (updated z π g a k l) (π k) (g k (get_or (updated z π g a k l) (π k) z))
  unfolding updated
  updated-step k h = between_step _ _ a k h

  -- p is the place and x what was made of what stands there
  pub updated_again : (k p : ℕ) (s : List A) (x : A) → a ≤ k → s ≡ updated z π g a k l → p ≡ π k → x ≡ g k (get_or s p z) → set s p x ≡ updated z π g a (k + 1) l
  updated_again k p s x h e q f = rw (add-one, updated-step k h, f, q, e)

  pub updated_done : (k b : ℕ) (s : List A) → k ≤ b → b ≤ k → s ≡ updated z π g a k l → s ≡ updated z π g a b l
  updated_done k b s g h e = let q : k ≡ b = omega arith in rw (← q) e

  long_more : (d : ℕ) → length (updated z π g a (a + d) l) ≡ length l
  long_more zero = rw (add-zero, ← updated-start)
  long_more (suc d) = rw (add-suc, updated-step (a + d) (omega arith), length-set) (long_more d)

  pub updated-long : (b : ℕ) → a ≤ b → length (updated z π g a b l) ≡ length l
  updated-long b h = let q : b ≡ a + (b - a) = omega arith in rw q (long_more (b - a))

  away_more : (d p : ℕ) → ((t : ℕ) → a ≤ t → t < a + d → p ≡ π t → ⊥) → get_or (updated z π g a (a + d) l) p z ≡ get_or l p z
  away_more zero p h = rw (add-zero, ← updated-start)
  away_more (suc d) p h =
      let s : List A = updated z π g a (a + d) l in
      rw (add-suc, updated-step (a + d) (omega arith), get_or-set_other s (π (a + d)) p (g (a + d) (get_or s (π (a + d)) z)) z (h (a + d) (omega arith) (omega arith)))
      (away_more d p λ t m u. h t m (omega arith))

  pub updated_away : (b p : ℕ) → a ≤ b → ((t : ℕ) → a ≤ t → t < b → p ≡ π t → ⊥) → get_or (updated z π g a b l) p z ≡ get_or l p z
  updated_away b p h k = let q : b ≡ a + (b - a) = omega arith in rw q (away_more (b - a) p λ t m u. k t m (omega arith))

  module _ (apart : (t u : ℕ) → t < u → π u ≡ π t → ⊥) where
    here_more : (d t : ℕ) → a ≤ t → t < a + d → π t < length l → get_or (updated z π g a (a + d) l) (π t) z ≡ g t (get_or l (π t) z)
    here_more zero t m u h = absurd (omega arith)
    here_more (suc d) t m u h =
        let s : List A = updated z π g a (a + d) l in
        let w : t ≤ a + d = omega arith in
        ⊎_elim
        (λ (e : t ≡ a + d).
        rw (add-suc, updated-step (a + d) (omega arith), e, get_or-set_same s (π (a + d)) (g (a + d) (get_or s (π (a + d)) z)) z (omega (arith, long_more d, rw e at h)))
        (ap (g (a + d)) (away_more d (π (a + d)) λ v n k. apart v (a + d) k)))
        (λ (e : t < a + d).
        rw (add-suc, updated-step (a + d) (omega arith), get_or-set_other s (π (a + d)) (π t) (g (a + d) (get_or s (π (a + d)) z)) z (λ f. apart t (a + d) e (sym f)))
        (here_more d t m e h))
        (eq-or-lt_of_le w)

    pub updated_here : (b t : ℕ) → a ≤ t → t < b → π t < length l → get_or (updated z π g a b l) (π t) z ≡ g t (get_or l (π t) z)
    updated_here b t m u h = let q : b ≡ a + (b - a) = omega arith in rw q (here_more (b - a) t m (omega arith) h)

-- ---- an in-place loop within another: turn r sets places π r t, for t from lo up to hi, and no place is set twice

module _ {A : Type 0} (z : A) (π : ℕ → ℕ → ℕ) (g : ℕ → ℕ → A → A) (lo hi : ℕ) (some : lo ≤ hi) (i : ℕ) (l : List A) where
  nested : ℕ → List A
  nested k = between i k l λ r l. updated z (π r) (g r) lo hi l

  nested-step : (d : ℕ) → nested (i + suc d) ≡ updated z (π (i + d)) (g (i + d)) lo hi (nested (i + d))
  unfolding nested
  nested-step d = rw (add-suc, between_step _ _ i (i + d) (omega arith))

  nested-start : nested (i + 0) ≡ l
  unfolding nested
  nested-start = rw (add-zero, between_start)

  nested_long_more : (d : ℕ) → length (nested (i + d)) ≡ length l
  nested_long_more zero = rw nested-start
  nested_long_more (suc d) = rw (nested-step d, updated-long z (π (i + d)) (g (i + d)) lo (nested (i + d)) hi some) (nested_long_more d)

  nested_away_more : (d p : ℕ) → ((r t : ℕ) → i ≤ r → r < i + d → lo ≤ t → t < hi → p ≡ π r t → ⊥) → get_or (nested (i + d)) p z ≡ get_or l p z
  nested_away_more zero p h = rw nested-start
  nested_away_more (suc d) p h =
      rw (nested-step d, updated_away z (π (i + d)) (g (i + d)) lo (nested (i + d)) hi p some (λ t a b. h (i + d) t (omega arith) (omega arith) a b))
      (nested_away_more d p λ r t a b. h r t a (omega arith))

  pub nested-long : (k : ℕ) → i ≤ k → length (between i k l λ r l. updated z (π r) (g r) lo hi l) ≡ length l
  unfolding nested
  nested-long k h = let q : k ≡ i + (k - i) = omega arith in rw q (nested_long_more (k - i))

  pub nested_away : (k p : ℕ) → i ≤ k → ((r t : ℕ) → i ≤ r → r < k → lo ≤ t → t < hi → p ≡ π r t → ⊥) → get_or (between i k l λ r l. updated z (π r) (g r) lo hi l) p z ≡ get_or l p z
  unfolding nested
  nested_away k p h a = let q : k ≡ i + (k - i) = omega arith in rw q (nested_away_more (k - i) p λ r t b c. a r t b (omega arith))

  -- up to turn k
  module _ (k : ℕ) (apart : (r t u : ℕ) → i ≤ r → r < k → t < u → π r u ≡ π r t → ⊥) (rows : (r q t u : ℕ) → i ≤ r → r < q → q < k → lo ≤ t → t < hi → lo ≤ u → u < hi → π r t ≡ π q u → ⊥) where
    nested_here_more : (d r t : ℕ) → i + d ≤ k → i ≤ r → r < i + d → lo ≤ t → t < hi → π r t < length l → get_or (nested (i + d)) (π r t) z ≡ g r t (get_or l (π r t) z)
    nested_here_more zero r t f a b c e h = absurd (omega arith)
    nested_here_more (suc d) r t f a b c e h =
        let w : r ≤ i + d = omega arith in
        ⊎_elim
        (λ (s : r ≡ i + d).
        rw s
        (rw (nested-step d, updated_here z (π (i + d)) (g (i + d)) lo (nested (i + d)) (λ t u. apart (i + d) t u (omega arith) (omega arith)) hi t c e (omega (arith, nested_long_more d, rw s at h)))
        (ap (g (i + d) t) (nested_away_more d (π (i + d) t) λ q u m n x y v. rows q (i + d) u t m n (omega arith) x y c e (sym v)))))
        (λ (s : r < i + d).
        rw (nested-step d, updated_away z (π (i + d)) (g (i + d)) lo (nested (i + d)) hi (π r t) some (λ u x y. rows r (i + d) t u a s (omega arith) c e x y))
        (nested_here_more d r t (omega arith) a s c e h))
        (eq-or-lt_of_le w)

    pub nested_here : (r t : ℕ) → i ≤ r → r < k → lo ≤ t → t < hi → π r t < length l → get_or (between i k l λ r l. updated z (π r) (g r) lo hi l) (π r t) z ≡ g r t (get_or l (π r t) z)
    unfolding nested
    nested_here r t a b c e h = let q : k ≡ i + (k - i) = omega arith in rw q (nested_here_more (k - i) r t (omega arith) a (omega arith) c e h)
