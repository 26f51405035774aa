-- Loops whose turns read the matrix by place: where each starts, its next turn, and its end, in the form in which
-- `search` applies them.
use Prim.Native.Nat.{ℕ, suc, ◌+◌, ◌-◌, ◌*◌, ◌≤◌, ◌<◌}
use mathlib.Core.Path.{◌≡◌}
use mathlib.Core.List.{List}
use native.Mathlib.Numerals.{add-one}
use lib.ListN.{set, replicate}
use lib.Ieee.{Float, nan}
use Rattle.loops.specs.Updates.{updated}
use Rattle.loops.proofs.Turns.{between-from, between_again, downward-from, downward_again}
use Rattle.loops.proofs.Updates.{updated-start}
use Rattle.floats.specs.Ops.{◌⊕◌, ◌⊖◌, ◌⊗◌, ◌⊘◌, at, 0ᶠ}
use Rattle.least_norm.specs.LeastNorm as least
use Rattle.least_norm.specs.Starts as starts
use Rattle.least_norm.specs.Private as private
use Rattle.least_norm.specs.Blocks.{squares, products, less_rows}

-- p is the place of row i and column c
module _ (a : List Float) (n c k : ℕ) (s₀ : List Float) (j : ℕ) where
  pub squares-start : s₀ ≡ squares a n c k s₀ j j
  unfolding squares
  squares-start = between-from _ _ _

  pub squares_again : (i p : ℕ) (s x : List Float)
      → x ≡ updated nan (λ (t : ℕ). t) (λ (t : ℕ) (v : Float). v ⊕ at a (p + t) ⊗ at a (p + t)) 0 k s
      → s ≡ squares a n c k s₀ j i → p ≡ i * n + c → j ≤ i → x ≡ squares a n c k s₀ j (i + 1)
  unfolding squares
  squares_again i p s x g e q h = between_again _ _ j i s x h e (rw (← q) g)

  module _ (v : List Float) where
    pub products-start : s₀ ≡ products a n c k v s₀ j j
    unfolding products
    products-start = between-from _ _ _

    pub products_again : (i p : ℕ) (s x : List Float)
        → x ≡ updated nan (λ (t : ℕ). t) (λ (t : ℕ) (y : Float). y ⊕ at v i ⊗ at a (p + t)) 0 k s
        → s ≡ products a n c k v s₀ j i → p ≡ i * n + c → j ≤ i → x ≡ products a n c k v s₀ j (i + 1)
    unfolding products
    products_again i p s x g e q h = between_again _ _ j i s x h e (rw (← q) g)

module _ (n c k : ℕ) (v f a₀ : List Float) (j : ℕ) where
  pub less_rows-start : a₀ ≡ less_rows n c k v f a₀ j j
  unfolding less_rows
  less_rows-start = between-from _ _ _

  pub less_rows_again : (i p : ℕ) (s x : List Float)
      → x ≡ updated nan (λ (t : ℕ). p + t) (λ (t : ℕ) (y : Float). y ⊖ at f t ⊗ at v i) 0 k s → s ≡ less_rows n c k v f a₀ j i
      → p ≡ i * n + c → j ≤ i → x ≡ less_rows n c k v f a₀ j (i + 1)
  unfolding less_rows
  less_rows_again i p s x g e q h = between_again _ _ j i s x h e (rw (← q) g)

module _ (n j : ℕ) (a : List Float) where
  pub zero_below-start : a ≡ private.zero_below n j a (j + 1)
  unfolding private.zero_below
  zero_below-start = rw add-one (updated-start nan _ _ (suc j) a)

pub cleared-from : (n rank : ℕ) (a right : List Float) → right ≡ replicate (rank * n) 0ᶠ → least.trapezoid a right ≡ least.cleared n rank a rank
unfolding least.cleared
cleared-from n rank a right e = rw e (downward-from _ _ rank)

module _ (y₀ : List Float) (n rank : ℕ) (a b : List Float) where
  pub substituted-from : y₀ ≡ starts.substituted y₀ n rank a b rank
  unfolding starts.substituted
  substituted-from = downward-from _ _ rank

  pub substituted_again : (i : ℕ) (y : List Float) (u v : Float) → 0 < i → i ≤ rank
      → y ≡ starts.substituted y₀ n rank a b i → u ≡ private.known n rank a b y (i - 1) → v ≡ at a ((i - 1) * n + (i - 1))
      → set y (i - 1) (u ⊘ v) ≡ starts.substituted y₀ n rank a b (i - 1)
  unfolding starts.substituted
  substituted_again i y u v h g e f p = downward_again _ _ rank i y (set y (i - 1) (u ⊘ v)) h g e (rw (f, p))
