-- One row: where a pass starts it; the free rows, as a loop gathers them, and the rows of a list as places.
use Rattle.std.proofs.Common.{ℕ, ◌+◌, ◌≡◌, ◌≤◌, ◌<◌, ◌++◌, ◌∷◌, [], List, refl, add-one, arith, get_or, set, length}
use lib.Ieee.{Float}
use borrow.Author.Tests.{eq-eqb, ne_eqb}
use Rattle.loops.specs.Loops.{those, turns}
use Rattle.loops.proofs.Gather.{those-le, those-take, those_skip, those-gathered, each_at}
use Rattle.exact_pass.specs.Below.{Below}
use Rattle.exact_pass.specs.Pass.{free_rows}
use Rattle.floats.specs.Ops.{at}
use Rattle.box_rows.specs.Rows as box
use Rattle.exact_pass.specs.Private as private

-- the start of row i, which acts, where k rows before it act
module _ (lo hi scale nu : List Float) (st : List ℕ) (i k : ℕ) (h : k ≤ i) {s : ℕ} (e : s ≡ box.state st i) where
  pub row-started : {nu' : List Float} {st' : List ℕ} {v low high size x : Float} {t : ℕ} → (s ≡ 3 → ⊥) → v ≡ at nu i → low ≡ at lo i → high ≡ at hi i → size ≡ at scale i → t ≡ box.state_of low high size v
      → st' ≡ set st i t → x ≡ box.placed low high t v → nu' ≡ set nu i x → private.Started (private.start_row lo hi scale i (private.started nu st k)) (i + 1) nu' st' (k + 1)
  unfolding private.start_row
  row-started f a b c d g q x r = record { start = rw (r, x, q, g, d, c, b, a, ne_eqb (box.state st i) 3 (rw e at f), add-one k); within = omega arith }

pub free_none : (st : List ℕ) → [] ≡ free_rows st 0
unfolding those turns
free_none st = refl

pub free_taken : (st : List ℕ) (i s : ℕ) (l l' : List ℕ) → l ≡ free_rows st i → s ≡ 0 → s ≡ get_or st i 0 → l' ≡ l ++ (i ∷ []) → l' ≡ free_rows st (i + 1)
free_taken st i s l l' e f g h = rw (add-one, those-take _ i (eq-eqb (get_or st i 0) 0 (rw g at f)), ← e) h

pub free_left : (st : List ℕ) (i s : ℕ) (l : List ℕ) → l ≡ free_rows st i → (s ≡ 0 → ⊥) → s ≡ get_or st i 0 → l ≡ free_rows st (i + 1)
free_left st i s l e f g = rw (add-one, those_skip _ i (ne_eqb (get_or st i 0) 0 (rw g at f))) e

pub free_few : (st : List ℕ) (n : ℕ) → length (free_rows st n) ≤ n
free_few st n = those-le _ n

pub free_below : (st : List ℕ) (n : ℕ) → Below n (free_rows st n)
free_below st n i b = each_at (λ (a : ℕ). a < n) (free_rows st n) (those-gathered _ n).below i b

pub ruleset gathering = (free_none, free_taken, free_left, free_few)
