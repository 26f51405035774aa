-- A run of values, as the loop that fills a buffer makes it: at the start, and after one more value. And a run from its
-- own first byte on.
use Prim.Native.Nat.{ℕ, ◌+◌, ◌*◌, ◌<◌}
use mathlib.Core.Path.{◌≡◌, ap}
use mathlib.Core.List.{List, ◌++◌}
use native.Mathlib.Omega.{arith}
use lib.Ieee.{Float}
use lib.ListN.{length, drop, set}
use Rattle.loops.specs.Loops.{tab}
use Rattle.loops.proofs.Fill.{tab-length, tab-start, tab_again}
use denote.Ref.{Bor}
use Rattle.bend_file.specs.Little.{value, values, over}

module _ (f : List ℕ) (start first : ℕ) where
  pub values_length : (n : ℕ) → length (values f start first n) ≡ n
  unfolding values
  values_length n = tab-length (λ i. value f (start + 8 * (first + i))) n

  pub values-start : (d : List Float) → d ≡ values f start first 0 ++ drop 0 d
  unfolding values
  values-start d = tab-start (λ i. value f (start + 8 * (first + i))) d

  pub values_again : (n at : ℕ) (d s : List Float) (v : Float) → s ≡ values f start first n ++ drop n d
      → length s ≡ length d → n < length s → v ≡ value f at → at ≡ start + 8 * (first + n)
      → set s n v ≡ values f start first (n + 1) ++ drop (n + 1) d
  unfolding values
  values_again n at d s v e g l h is = rw (h, is) (tab_again (λ i. value f (start + 8 * (first + i))) n d s e g l)

  pub values-from : (n at : ℕ) → at ≡ start + 8 * first → values f at 0 n ≡ values f start first n
  unfolding values
  values-from n at is =
      let same : (λ (i : ℕ). value f (at + 8 * (0 + i))) ≡ (λ (i : ℕ). value f (start + 8 * (first + i))) =
      λ j i. (ap (value f) (let e : at + 8 * (0 + i) ≡ start + 8 * (first + i) = omega arith in e)) j in
      ap (λ (g : ℕ → Float). tab g n) same

-- what a fill leaves, where its file is still the one that is lent
pub values-laid : (f g : Bor (List ℕ)) (s first n at : ℕ) (d o : List Float) → g ≡ f → at ≡ s + 8 * first → o ≡ over (values g.now at 0 n) d
    → o ≡ over (values f.now s first n) d
values-laid f g s first n at d o e is h = rw (← values-from f.now s first n at is, ← e) h
