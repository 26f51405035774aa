-- Sums of all columns, row by row, are each column's sum by itself. One law for every such sum: g r c v is what row r makes of column c's sum v.
use Prim.Native.Nat.{ℕ, zero, suc, ◌+◌, ◌-◌, ◌≤◌, ◌<◌}
use mathlib.Core.Path.{◌≡◌, ◌∙◌}
use mathlib.Core.List.{List}
use mathlib.Core.Logic.{⊎_elim}
use native.Mathlib.Omega.{arith}
use native.Mathlib.Nat.{add-zero, add-suc, eq-or-lt_of_le}
use lib.ListN.{length, get_or, set, length-set}
use lib.Seq.{get_or-set_same, get_or-set_other}
use Rattle.loops.specs.Loops.{between}
use Rattle.loops.proofs.Turns.{between_start, between_step}

-- one row: from j up to k
module _ {A : Type 0} (z : A) (g : ℕ → A → A) (j : ℕ) (s : List A) where
  row : ℕ → List A
  row k = between j k s λ c s. set s c (g c (get_or s c z))

  row-length : (d : ℕ) → length (row (j + d)) ≡ length s
  unfolding row
  row-length zero = rw (add-zero, between_start)
  row-length (suc d) = rw (add-suc, between_step _ _ j (j + d) (omega arith), length-set) (row-length d)

  row_later : (d c : ℕ) → j + d ≤ c → get_or (row (j + d)) c z ≡ get_or s c z
  unfolding row
  row_later zero c h = rw (add-zero, between_start)
  row_later (suc d) c h = rw (add-suc, between_step _ _ j (j + d) (omega arith), get_or-set_other (row (j + d)) (j + d) c (g (j + d) (get_or (row (j + d)) (j + d) z)) z (λ q. omega arith)) (row_later d c (omega arith))

  row_last : (d : ℕ) → j + d < length s → get_or (row (j + suc d)) (j + d) z ≡ g (j + d) (get_or s (j + d) z)
  unfolding row
  row_last d h = rw (add-suc, between_step _ _ j (j + d) (omega arith), get_or-set_same (row (j + d)) (j + d) (g (j + d) (get_or (row (j + d)) (j + d) z)) z (omega (arith, row-length d)), row_later d (j + d) (omega arith))

  row_sooner : (d c : ℕ) → c < j + d → get_or (row (j + suc d)) c z ≡ get_or (row (j + d)) c z
  unfolding row
  row_sooner d c h = rw (add-suc, between_step _ _ j (j + d) (omega arith), get_or-set_other (row (j + d)) (j + d) c (g (j + d) (get_or (row (j + d)) (j + d) z)) z (λ q. omega arith))

  row_at : (d c : ℕ) → j + d ≤ length s → j ≤ c → c < j + d → get_or (row (j + d)) c z ≡ g c (get_or s c z)
  row_at zero c h l u = absurd (omega arith)
  row_at (suc d) c h l u =
      let w : c ≤ j + d = omega arith in
      ⊎_elim (λ (q : c ≡ j + d). rw q (row_last d (omega arith)))
      (λ (q : c < j + d). row_sooner d c q ∙ row_at d c (omega arith) l q)
      (eq-or-lt_of_le w)

  pub row_is : (k c : ℕ) → k ≤ length s → j ≤ c → c < k → get_or (between j k s λ c s. set s c (g c (get_or s c z))) c z ≡ g c (get_or s c z)
  unfolding row
  row_is k c h l u = let q : k ≡ j + (k - j) = omega arith in rw q (row_at (k - j) c (omega arith) l (omega arith))

  pub row-long : (k : ℕ) → j ≤ k → length (between j k s λ c s. set s c (g c (get_or s c z))) ≡ length s
  unfolding row
  row-long k h = let q : k ≡ j + (k - j) = omega arith in rw q (row-length (k - j))

-- all rows: what row r makes of column c's sum is g r c
module _ {A : Type 0} (z : A) (g : ℕ → ℕ → A → A) (i j n : ℕ) (s : List A) (fits : n ≤ length s) (some : j ≤ n) where
  rows : ℕ → List A
  rows k = between i k s λ r s. between j n s λ c s. set s c (g r c (get_or s c z))

  rows-length : (d : ℕ) → length (rows (i + d)) ≡ length s
  unfolding rows
  rows-length zero = rw (add-zero, between_start)
  rows-length (suc d) = rw (add-suc, between_step _ _ i (i + d) (omega arith), row-long z (g (i + d)) j (rows (i + d)) n some) (rows-length d)

  rows_at : (d c : ℕ) → j ≤ c → c < n → get_or (rows (i + d)) c z ≡ between i (i + d) (get_or s c z) λ r v. g r c v
  unfolding rows
  rows_at zero c l u = rw (add-zero, between_start, between_start)
  rows_at (suc d) c l u = rw (add-suc, between_step _ _ i (i + d) (omega arith), between_step _ _ i (i + d) (omega arith), row_is z (g (i + d)) j (rows (i + d)) n c (omega (arith, rows-length d)) l u, rows_at d c l u)

  pub rows_are : (k c : ℕ) → i ≤ k → j ≤ c → c < n → get_or (between i k s λ r s. between j n s λ c s. set s c (g r c (get_or s c z))) c z ≡ between i k (get_or s c z) λ r v. g r c v
  unfolding rows
  rows_are k c h l u = let q : k ≡ i + (k - i) = omega arith in rw q (rows_at (k - i) c l u)
