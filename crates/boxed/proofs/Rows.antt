-- The rows of a list, and whether one acts, by its state.
use Rattle.loops.proofs.Common.{ℕ, ◌+◌, ◌*◌, ◌≤◌, ◌<◌, ◌≡◌, ◌∙◌, ap, sym, true, false, List, length, take, drop, arith, eq-eqb, ne_eqb}
use Prim.Native.Nat.{◌/◌}
use mathlib.Core.List.{◌++◌}
use native.Mathlib.Nat.{add-mul-div_left, div-eq_of_lt, mul_comm, zero-add}
use lib.ListN.{length-drop}
use Rattle.std.proofs.Common.{length-append}
use lib.Seq.{take_at, drop_at, drop-drop}
use lib.Ieee.{Float}
use Rattle.box_rows.specs.Rows as box

-- ---- rows of n values that are read one after another from m: after k rows the rest follows them

module _ (m : List Float) (n k : ℕ) (rest : List Float) (within : k * n ≤ length m) (left : rest ≡ drop (k * n) m) where
  long : k * n + length rest ≡ length m
  long = rw left (omega (arith, length-drop (k * n) m, within))

  module _ (x after : List Float) (one_more : rest ≡ x ++ after) (row : length x ≡ n) where
    pub still_within : (k + 1) * n ≤ length m
    still_within = omega (arith, long, ap length one_more, length-append x after, row)

    pub left_after : after ≡ drop ((k + 1) * n) m
    left_after =
        let q : (k + 1) * n ≡ k * n + n = omega arith in
        rw (q, ← drop-drop n (k * n) m, ← left, one_more) (sym (drop_at x after n row))

    pub row_is : x ≡ take n (drop (k * n) m)
    row_is = rw (← left, one_more) (sym (take_at x after n row))

  -- where no row is left, k is how many there are
  pub all_read : length rest < n → length m / n ≡ k
  all_read h =
      let q : length m ≡ length rest + n * k = omega (arith, long, mul_comm n k) in
      rw q (add-mul-div_left (length rest) k (omega (arith, h)) ∙ ap (λ (j : ℕ). j + k) (div-eq_of_lt h) ∙ zero-add k)

module _ (st : List ℕ) (i : ℕ) where
  pub row-idle : box.state st i ≡ box.idle → box.acts st i ≡ false
  row-idle h = rw (eq-eqb _ _ h)

  pub row-acts : (box.state st i ≡ box.idle → ⊥) → box.acts st i ≡ true
  row-acts h = rw (ne_eqb _ _ h)
