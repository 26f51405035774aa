-- Loops whose turns do not look at their number: turns and then more, and whole rounds left out.
use Prim.Native.Nat.{ℕ, zero, suc, ◌+◌, ◌*◌, ◌/◌, ◌%◌}
use mathlib.Core.Path.{◌≡◌, sym, ap, ◌∙◌}
use native.Mathlib.Omega.{arith}
use native.Mathlib.Nat.{add-zero, add-suc, suc-mul, zero-mul, div-add-mod'}
use Rattle.loops.specs.Loops.{turns}

module _ {S : Type 0} (f : ℕ → S → S) (alike : (i j : ℕ) (s : S) → f i s ≡ f j s) where
  pub turns_more : (s : S) (a b : ℕ) → turns (a + b) s f ≡ turns b (turns a s f) f
  unfolding turns
  turns_more s a zero = rw add-zero
  turns_more s a (suc b) = rw add-suc (ap (f (a + b)) (turns_more s a b) ∙ alike (a + b) b (turns b (turns a s f) f))

  module _ (s : S) (a : ℕ) (round : turns a s f ≡ s) where
    rounds : (q r : ℕ) → turns (q * a + r) s f ≡ turns r s f
    rounds zero r = let e : 0 * a + r ≡ r = omega (arith, zero-mul a) in rw e
    rounds (suc q) r =
        let e : suc q * a + r ≡ a + (q * a + r) = omega (arith, suc-mul q a) in
        rw (e, turns_more s a (q * a + r), round) (rounds q r)

    pub rounds_left_out : (left : ℕ) → turns left s f ≡ turns (left % a) s f
    rounds_left_out left = ap (λ (n : ℕ). turns n s f) (sym (div-add-mod' left a)) ∙ rounds (left / a) (left % a)
