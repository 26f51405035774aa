-- The laws of loops: where each starts, its next turn, what every turn keeps, and a state that no later turn changes.
use Prim.Native.Nat.{ℕ, zero, suc, ◌+◌, ◌-◌, ◌≤◌, ◌<◌}
use mathlib.Core.Path.{◌≡◌, refl, sym, ap, ◌∙◌}
use native.Mathlib.Omega.{arith}
use native.Mathlib.Nat.{add-zero, add-suc}
use native.Mathlib.Numerals.{add-one}
use Rattle.loops.specs.Loops.{turns, between, downward}

module _ {S : Type 0} (s : S) (f : ℕ → S → S) where
  pub turns-start : turns 0 s f ≡ s
  unfolding turns
  turns-start = refl

  pub turns-step : (k : ℕ) → turns (suc k) s f ≡ f k (turns k s f)
  unfolding turns
  turns-step k = refl

-- a loop up from a; for the last two laws a loop down to a
module _ {S : Type 0} (s : S) (f : ℕ → S → S) (a : ℕ) where
  pub between_start : between a a s f ≡ s
  unfolding between turns
  between_start = let e : a - a ≡ 0 = omega arith in rw e

  pub between_step : (b : ℕ) → a ≤ b → between a (suc b) s f ≡ f b (between a b s f)
  unfolding between turns
  between_step b h =
      let e : suc b - a ≡ suc (b - a) = omega arith in
      let g : a + (b - a) ≡ b = omega arith in
      rw (e, g)

  pub downward-start : downward a a s f ≡ s
  unfolding downward turns
  downward-start = let e : a - a ≡ 0 = omega arith in rw e

  pub downward-step : (b : ℕ) → a < b → downward b a s f ≡ f a (downward b (suc a) s f)
  unfolding downward turns
  downward-step b h =
      let e : b - a ≡ suc (b - suc a) = omega arith in
      let g : b - suc (b - suc a) ≡ a = omega arith in
      rw (e, g)

-- what the start has and each turn keeps, the end has
module _ {S : Type 0} (f : ℕ → S → S) (s : S) (P : ℕ → S → Type 0) where
  pub turns_keep : (n : ℕ) → P zero s → ((i : ℕ) (x : S) → i < n → P i x → P (suc i) (f i x)) → P n (turns n s f)
  unfolding turns
  turns_keep zero z h = z
  turns_keep (suc n) z h = h n (turns n s f) (omega arith) (turns_keep n z λ i x b. h i x (omega arith))

-- what an early exit leaves is what all the turns leave, where no later turn changes it
module _ {S : Type 0} (f : ℕ → S → S) (s₀ s : S) (k : ℕ) (reached : turns k s₀ f ≡ s) (still : (i : ℕ) → k ≤ i → f i s ≡ s) where
  stays_more : (d : ℕ) → turns (k + d) s₀ f ≡ s
  unfolding turns
  stays_more zero = rw add-zero reached
  stays_more (suc d) = rw add-suc (ap (f (k + d)) (stays_more d) ∙ still (k + d) (omega arith))

  pub stays : (n : ℕ) → k ≤ n → turns n s₀ f ≡ s
  stays n h = let e : n ≡ k + (n - k) = omega arith in rw e (stays_more (n - k))

-- a loop cut in two, its first turn, and the same loop counted from 0
module _ {S : Type 0} (s : S) (f : ℕ → S → S) (a : ℕ) where
  join_more : (b d : ℕ) → a ≤ b → between b (b + d) (between a b s f) f ≡ between a (b + d) s f
  join_more b zero h = rw (add-zero, between_start)
  join_more b (suc d) h = rw (add-suc, between_step (between a b s f) f b (b + d) (omega arith), between_step s f a (b + d) (omega arith), join_more b d h)

  pub between_join : (b c : ℕ) → a ≤ b → b ≤ c → between b c (between a b s f) f ≡ between a c s f
  between_join b c h g = let q : c ≡ b + (c - b) = omega arith in rw q (join_more b (c - b) h)

  pub between_first : (b : ℕ) → a < b → between a b s f ≡ between (suc a) b (f a s) f
  between_first b h = let e : between a (suc a) s f ≡ f a s = rw (between_step s f a a (omega arith), between_start) in rw (← e) (sym (between_join (suc a) b (omega arith) h))

  pub between_shift : (k : ℕ) → between a (a + k) s f ≡ between 0 k s (λ t. f (a + t))
  between_shift zero = rw (add-zero, between_start, between_start)
  between_shift (suc k) = rw (add-suc, between_step s f a (a + k) (omega arith), between_step s (λ t. f (a + t)) 0 k (omega arith), between_shift k)

-- ---- the same laws as a loop's proof cites them, in the form in which `search` applies them: s is the state and x the state after one more turn

module _ {S : Type 0} (s₀ : S) (f : ℕ → S → S) where
  pub turns-from : s₀ ≡ turns 0 s₀ f
  turns-from = sym (turns-start s₀ f)

  pub turns_again : (k : ℕ) (s x : S) → s ≡ turns k s₀ f → x ≡ f k s → x ≡ turns (k + 1) s₀ f
  turns_again k s x e g = rw (add-one, turns-step s₀ f k, g, e)

  pub turns_done : (k n : ℕ) (s : S) → k ≤ n → n ≤ k → s ≡ turns k s₀ f → s ≡ turns n s₀ f
  turns_done k n s g h e = let q : k ≡ n = omega arith in rw (← q) e

  pub between-from : (a : ℕ) → s₀ ≡ between a a s₀ f
  between-from a = sym (between_start s₀ f a)

  pub between_again : (a k : ℕ) (s x : S) → a ≤ k → s ≡ between a k s₀ f → x ≡ f k s → x ≡ between a (k + 1) s₀ f
  between_again a k s x h e g = rw (add-one, between_step s₀ f a k h, g, e)

  -- several turns at once
  pub between_more : (a k l : ℕ) (s x : S) → x ≡ between k l s f → s ≡ between a k s₀ f → a ≤ k → k ≤ l → x ≡ between a l s₀ f
  between_more a k l s x g e h m = rw (g, e) (between_join s₀ f a k l h m)

  pub between_done : (a k n : ℕ) (s : S) → k ≤ n → n ≤ k → s ≡ between a k s₀ f → s ≡ between a n s₀ f
  between_done a k n s g h e = let q : k ≡ n = omega arith in rw (← q) e

  pub downward-from : (b : ℕ) → s₀ ≡ downward b b s₀ f
  downward-from b = sym (downward-start s₀ f b)

  pub downward_again : (b k : ℕ) (s x : S) → 0 < k → k ≤ b → s ≡ downward b k s₀ f → x ≡ f (k - 1) s → x ≡ downward b (k - 1) s₀ f
  downward_again b k s x h m e g =
      let q : suc (k - 1) ≡ k = omega arith in
      rw (downward-step s₀ f (k - 1) b (omega arith), q, g, e)

  pub downward_done : (b k : ℕ) (s : S) → k ≤ 0 → s ≡ downward b k s₀ f → s ≡ downward b 0 s₀ f
  downward_done b k s h e = let q : k ≡ 0 = omega arith in rw (← q) e
