-- Loops that take two places at a time: place i and the next, or i alone where e is i.
use Prim.Native.Nat.{ℕ, ◌+◌, ◌≤◌, ◌<◌}
use mathlib.Core.Path.{◌≡◌}
use mathlib.Core.Bool.{Bool, false, ◌||◌, or_assoc, or_self}
use mathlib.Core.List.{List, ◌++◌}
use mathlib.Core.Logic.{⊎_elim}
use native.Mathlib.Nat.{eq-or-lt_of_le}
use native.Mathlib.Numerals.{add-one}
use native.Mathlib.Omega.{arith}
use lib.ListN.{length, set, drop, length-set}
use lib.Seq.{set-set}
use Rattle.loops.specs.Loops.{turns, tab}
use Rattle.loops.proofs.Fill.{tab_again}

module _ {i e : ℕ} (least : i ≤ e) (most : e ≤ i + 1) where
  pub tab-two : {A : Type 0} (f : ℕ → A) (d y : List A) → y ≡ tab f i ++ drop i d → length y ≡ length d → e < length d → set (set y i (f i)) e (f e) ≡ tab f (e + 1) ++ drop (e + 1) d
  tab-two f d y g h b =
      let one = tab_again f i d y g h (omega arith) in
      ⊎_elim
      (λ (q : i ≡ e). rw (← q, set-set) one)
      (λ (q : i < e). let p : e ≡ i + 1 = omega arith in rw p (tab_again f (i + 1) d (set y i (f i)) one (simp length-set h) (simp length-set (omega (arith, p)))))
      (eq-or-lt_of_le least)

  pub or-two : (t : ℕ → Bool) (b c : Bool) → b ≡ turns i false (λ i b. b || t i) → c ≡ (t i || t e) → (b || c) ≡ turns (e + 1) false (λ i b. b || t i)
  unfolding turns
  or-two t b c g h =
      ⊎_elim
      (λ (q : i ≡ e). rw (h, ← q, or_self, g, add-one))
      (λ (q : i < e). let p : e ≡ i + 1 = omega arith in rw (h, p, ← or_assoc, g, add-one, add-one))
      (eq-or-lt_of_le least)
