-- A list filled by parts of k values each, g 0, g 1, ..: a matrix by its rows, say.
use Prim.Native.Nat.{ℕ, zero, suc, ◌+◌, ◌-◌, ◌*◌, ◌≤◌, ◌<◌}
use mathlib.Core.Path.{◌≡◌, ◌∙◌}
use mathlib.Core.List.{List, [], ◌++◌, append_assoc, append-nil}
use native.Mathlib.Omega.{arith}
use native.Mathlib.Numerals.{add-one}
use mathlib.Core.Logic.{⊎_elim}
use native.Mathlib.Nat.{suc-mul, not-suc-le-zero, le_of_suc-le-suc, eq-or-lt_of_le}
use borrow.Rule.Slice.PartMut.{put_mid}
use lib.ListN.{get_or-append, get_or, length, take, drop, length-append, length-drop, drop_of_length-le}
use lib.Seq.{get_or-append-add, take_at, drop_at, drop-drop, length-take-le}
use Rattle.loops.specs.Loops.{turns}
use Rattle.loops.proofs.Index.{row-end, place}

module _ {A : Type 0} (g : ℕ → List A) (k : ℕ) (long : (i : ℕ) → length (g i) ≡ k) where
  abbrev pub joined : ℕ → List A
  joined i = turns i [] λ i m. m ++ g i

  pub joined_length : (i : ℕ) → length (joined i) ≡ i * k
  unfolding turns
  joined_length zero = omega arith
  joined_length (suc i) = length-append (joined i) (g i) ∙ omega (arith, joined_length i, long i, suc-mul i k)

  -- the j-th value of the i-th part
  pub joined_at : (n i j : ℕ) (d : A) → i < n → j < k → get_or (joined n) (i * k + j) d ≡ get_or (g i) j d
  unfolding turns
  joined_at zero i j d h l = absurd (not-suc-le-zero h)
  joined_at (suc n) i j d h l =
      ⊎_elim
      (λ (e : i ≡ n). rw (e, ← joined_length n) (get_or-append-add (joined n) (g n) j d))
      (λ (c : i < n). get_or-append (joined n) (g n) d (i * k + j) (rw (joined_length n) (place n k i j c l)) ∙ joined_at n i j d c l)
      (eq-or-lt_of_le (le_of_suc-le-suc h))

  module _ (m₀ : List A) where
    pub parts-start : m₀ ≡ joined 0 ++ drop (0 * k) m₀
    unfolding turns
    parts-start = let e : 0 * k ≡ 0 = omega arith in rw e

    -- the part from place i * k on is replaced by the next one
    pub parts_again : (i : ℕ) (m r : List A) → m ≡ joined i ++ drop (i * k) m₀ → r ≡ g i → put_mid (i * k) (i * k + k - i * k) m r ≡ joined (i + 1) ++ drop ((i + 1) * k) m₀
    unfolding turns
    parts_again i m r f e =
        let c : i * k + k - i * k ≡ k = omega arith in
        let t : i * k + k ≡ suc i * k = omega (arith, suc-mul i k) in
        let x : take (i * k) m ≡ joined i = rw f (take_at (joined i) _ (i * k) (joined_length i)) in
        let y : drop (i * k) m ≡ drop (i * k) m₀ = rw f (drop_at (joined i) _ (i * k) (joined_length i)) in
        rw (add-one i, c, x, y, drop-drop k (i * k) m₀, t, e, append_assoc)

    pub parts_done : (i : ℕ) (m : List A) → length m₀ ≡ k * k → i ≤ k → k ≤ i → m ≡ joined i ++ drop (i * k) m₀ → m ≡ joined k
    parts_done i m s a b e = let q : i ≡ k = omega arith in e ∙ rw (q, drop_of_length-le m₀ {i = k * k} (omega (arith, s)), append-nil)

-- the part of a list of k parts that part i takes
pub part_length : {A : Type 0} (m : List A) (k i : ℕ) → length m ≡ k * k → i < k → length (take (i * k + k - i * k) (drop (i * k) m)) ≡ k
part_length m k i e h =
    let c : i * k + k - i * k ≡ k = omega arith in
    rw c (length-take-le k (drop (i * k) m) (omega (arith, length-drop (i * k) m, row-end k k i h, e)))
