-- Adjacent columns together, row by row, are the same as each by itself: norms, factors, and the reflected matrix place
-- by place.
use Prim.Native.Nat.{ℕ, zero, suc, ◌+◌, ◌-◌, ◌*◌, ◌≤◌, ◌<◌}
use mathlib.Core.Path.{◌≡◌, sym, ◌∙◌, ap}
use mathlib.Core.List.{List}
use mathlib.Core.Logic.{⊎_elim, ◌⊎◌, inl, inr}
use native.Mathlib.Omega.{arith}
use native.Mathlib.Nat.{add-zero, add-suc, add_assoc}
use lib.ListN.{length}
use lib.Ieee.{Float, nan, binary64, add}
use Rattle.loops.specs.Loops.{between}
use Rattle.loops.specs.Updates.{updated}
use Rattle.loops.proofs.Turns.{between_start, between_step, between_first}
use Rattle.loops.proofs.Updates.{between_ext, updated-long, nested-long, nested_away, nested_here}
use Rattle.loops.proofs.Exchange.{row_is, rows_are}
use Rattle.loops.proofs.Index.{place, same_row, same-column, ext-matrix}
use Rattle.floats.specs.Ops.{◌⊕◌, ◌⊖◌, ◌⊗◌, ◌⊘◌, at, 0ᶠ, 2ᶠ}
use Rattle.floats.specs.Sums.{gathered}
use Rattle.floats.proofs.Sums.{gathered_ext}
use Rattle.least_norm.specs.Reflector.{reflect}
use Rattle.least_norm.specs.LeastNorm as least
use Rattle.least_norm.specs.Private as private
use Rattle.least_norm.specs.Private.{factor}
use Rattle.least_norm.specs.Blocks.{squares, products, less_rows}

-- ---- norms and products

pub norms_are : (a : List Float) (n j m c k : ℕ) (s : List Float) → k ≤ length s → j ≤ m → (t : ℕ) → t < k → at s t ≡ 0ᶠ
    → at (squares a n c k s j m) t ≡ least.norm2 a n (c + t) j m
unfolding squares least.norm2 updated gathered
norms_are a n j m c k s f h t u z =
    rows_are nan (λ r t x. x ⊕ at a (r * n + c + t) ⊗ at a (r * n + c + t)) j 0 k s f (omega arith) m t h (omega arith) u
    ∙ rw z (between_ext 0ᶠ _ _ j m h λ r x l g. rw (add_assoc (r * n) c t))

module _ (a : List Float) (n j lo m c k : ℕ) (v : List Float) (vtv : Float) (s : List Float) (room : k ≤ length s) (low : lo ≤ m) where
  first : List Float
  first = updated nan (λ t. t) (λ t x. at v j ⊗ at a (j * n + c + t)) 0 k s

  first-long : length first ≡ length s
  unfolding first
  first-long = updated-long nan (λ t. t) (λ t x. at v j ⊗ at a (j * n + c + t)) 0 s k (omega arith)

  summed : List Float
  summed = products a n c k v first (lo) m

  summed_at : (t : ℕ) → t < k → at summed t ≡ between (lo) m (at v j ⊗ at a (j * n + c + t)) (λ r x. x ⊕ at v r ⊗ at a (r * n + c + t))
  unfolding summed first products updated
  summed_at t u =
      rows_are nan (λ r t x. x ⊕ at v r ⊗ at a (r * n + c + t)) (lo) 0 k first (omega (arith, first-long)) (omega arith) m t low (omega arith) u
      ∙ rw (row_is nan (λ t x. at v j ⊗ at a (j * n + c + t)) 0 s k t room (omega arith) u)

  summed-long : (d : ℕ) → lo + d ≤ m → length (products a n c k v first (lo) (lo + d)) ≡ length s
  unfolding products
  summed-long zero h = rw (add-zero, between_start) first-long
  summed-long (suc d) h =
      rw (
        add-suc,
        between_step _ _ (lo) (lo + d) (omega arith),
        updated-long nan (λ t. t)
            (λ t x. x ⊕ at v (lo + d) ⊗ at a ((lo + d) * n + c + t)) 0 (products a n c k v first (lo) (lo + d)) k
            (omega arith),
      )
      (summed-long d (omega arith))

  all-long : length summed ≡ length s
  unfolding summed
  all-long = let q : lo + (m - lo) ≡ m = omega arith in rw q at (summed-long (m - lo) (omega arith))

  factors-at : (t : ℕ) → t < k
      → at (updated nan (λ t. t) (λ t x. 2ᶠ ⊗ x ⊘ vtv) 0 k summed) t
      ≡ factor (j * n + (c + t)) (λ row. row * n + (c + t)) (at v j) (λ row. at v row) vtv (lo) m a
  unfolding factor gathered updated
  factors-at t u =
      row_is nan (λ t x. 2ᶠ ⊗ x ⊘ vtv) 0 summed k t (omega (arith, all-long)) (omega arith) u
      ∙ rw (summed_at t u, add_assoc (j * n) c t)
      (ap (λ (x : Float). 2ᶠ ⊗ x ⊘ vtv) (between_ext (at v j ⊗ at a (j * n + (c + t))) _ _ (lo) m low λ r x l g. rw (add_assoc (r * n) c t)))

pub factors_are : (a : List Float) (n j lo m c k : ℕ) (v : List Float) (vtv : Float) (s p q r : List Float) (i : ℕ)
    → r ≡ updated nan (λ t. t) (λ t x. 2ᶠ ⊗ x ⊘ vtv) 0 k q → q ≡ products a n c k v p lo m
    → p ≡ updated nan (λ t. t) (λ t x. at v j ⊗ at a (i + t)) 0 k s → i ≡ j * n + c → k ≤ length s → lo ≤ m → (t : ℕ)
    → t < k → at r t ≡ factor (j * n + (c + t)) (λ row. row * n + (c + t)) (at v j) (λ row. at v row) vtv (lo) m a
unfolding summed first
factors_are a n j lo m c k v vtv s p q r i er eq ep ei f h t u = rw (er, eq, ep, ei) (factors-at a n j lo m c k v vtv s f h t u)

-- ---- the reflected columns

order : (a b : ℕ) → (a < b) ⊎ (b ≤ a)
order zero zero = inr (omega arith)
order zero (suc b) = inl (omega arith)
order (suc a) zero = inr (omega arith)
order (suc a) (suc b) = ⊎_elim (λ (l : a < b). inl (omega arith)) (λ (l : b ≤ a). inr (omega arith)) (order a b)

module _ (m n j : ℕ) (v : List Float) (vtv : Float) (low : j < m) where
  -- column q's factor in a matrix
  share : ℕ → List Float → Float
  share q a = factor (j * n + q) (λ row. row * n + q) (at v j) (λ row. at v row) vtv (suc j) m a

  column : ℕ → List Float → List Float
  column q a = private.reflect_column m n j (at v j) (λ row. at v row) vtv q a

  -- column q less f times v, from row j down
  lessened : ℕ → Float → List Float → List Float
  lessened q f a = updated nan (λ row. row * n + q) (λ row x. x ⊖ f ⊗ at v row) j m a

  column-is : (q : ℕ) (a : List Float) → column q a ≡ lessened q (share q a) a
  unfolding column lessened share private.reflect_column reflect factor updated
  column-is q a = sym (between_first a _ j m low)

  module _ (c : ℕ) (A : List Float) where
    -- so many columns, each with the factor that it has in A
    done : ℕ → List Float
    done d = between c (c + d) A λ q a. updated nan (λ row. row * n + q) (λ row x. x ⊖ share q A ⊗ at v row) j m a

    later : (d r q : ℕ) → c + d ≤ q → q < n → at (done d) (r * n + q) ≡ at A (r * n + q)
    unfolding done
    later d r q h g =
        nested_away nan (λ q row. row * n + q) (λ q row x. x ⊖ share q A ⊗ at v row) j m (omega arith) c A (c + d) (r * n + q) (omega arith)
        (λ p row a b e f w. let s : q ≡ p = same-column n r q row p g (omega arith) w in omega arith)

    share-same : (d : ℕ) → c + d < n → share (c + d) (done d) ≡ share (c + d) A
    unfolding share factor
    share-same d h =
        rw (later d j (c + d) (omega arith) h)
        (ap (λ (x : Float). 2ᶠ ⊗ x ⊘ vtv)
        (gathered_ext (add binary64) (at v j ⊗ at A (j * n + (c + d))) _ (suc j) _ m low
        λ row a b. rw (later d row (c + d) (omega arith) h)))

    done-is : (d : ℕ) → c + d ≤ n → between c (c + d) A column ≡ done d
    unfolding done lessened
    done-is zero h = rw (add-zero, between_start, between_start)
    done-is (suc d) h =
        let s : share (c + d) (done d) ≡ share (c + d) A = share-same d (omega arith) in
        rw (
          add-suc,
          between_step A column c (c + d) (omega arith),
          between_step _ _ c (c + d) (omega arith),
          done-is d (omega arith),
          column-is (c + d) (done d),
          s,
        )

    module _ (k : ℕ) (f : List Float) (fits : c + k ≤ n) (sized : length A ≡ m * n) (shares : (t : ℕ) → t < k → at f t ≡ share (c + t) A) where
      rows : List Float
      rows = between j m A λ row a. updated nan (λ t. row * n + c + t) (λ t x. x ⊖ at f t ⊗ at v row) 0 k a

      in-columns : (r t : ℕ) → t < k → j ≤ r → r < m → at (done k) (r * n + (c + t)) ≡ at A (r * n + (c + t)) ⊖ share (c + t) A ⊗ at v r
      unfolding done
      in-columns r t u g h =
          nested_here nan (λ q row. row * n + q) (λ q row x. x ⊖ share q A ⊗ at v row) j m (omega arith) c A (c + k)
          (λ q x y a b l e. let s : y ≡ x = same_row n y q x q (omega arith) (omega arith) e in omega arith)
          (λ p q x y a l b d e f w z. let s : p ≡ q = same-column n x p y q (omega arith) (omega arith) z in omega arith)
          (c + t)
          r
          (omega arith)
          (omega arith)
          g
          h
          (omega (arith, place m n r (c + t) h (omega arith)))

      in_rows : (r t : ℕ) → t < k → j ≤ r → r < m → at rows (r * n + c + t) ≡ at A (r * n + c + t) ⊖ at f t ⊗ at v r
      unfolding rows
      in_rows r t u g h =
          nested_here nan (λ row t. row * n + c + t) (λ row t x. x ⊖ at f t ⊗ at v row) 0 k (omega arith) j A m
          (λ row x y a b l e. omega arith)
          (λ p q x y a l b d e f w z. let s : p ≡ q = same_row n p (c + x) q (c + y) (omega arith) (omega arith) (omega arith) in omega arith)
          r
          t
          g
          h
          (omega arith)
          u
          (omega (arith, place m n r (c + t) h (omega arith)))

      out-columns : (r q : ℕ) → q < n → (j ≤ r → c ≤ q → q < c + k → ⊥) → at (done k) (r * n + q) ≡ at A (r * n + q)
      unfolding done
      out-columns r q g h =
          nested_away nan (λ q row. row * n + q) (λ q row x. x ⊖ share q A ⊗ at v row) j m (omega arith) c A (c + k) (r * n + q) (omega arith)
          (λ p row a b d e w.
          let s : q ≡ p = same-column n r q row p g (omega arith) w in
          let z : r ≡ row = same_row n r q row p g (omega arith) w in
          h (omega arith) (omega arith) (omega arith))

      out-rows : (r q : ℕ) → q < n → (j ≤ r → c ≤ q → q < c + k → ⊥) → at rows (r * n + q) ≡ at A (r * n + q)
      unfolding rows
      out-rows r q g h =
          nested_away nan (λ row t. row * n + c + t) (λ row t x. x ⊖ at f t ⊗ at v row) 0 k (omega arith) j A m (r * n + q) (omega arith)
          (λ row t a b d e w.
          let s : q ≡ c + t = same-column n r q row (c + t) g (omega arith) (omega arith) in
          let z : r ≡ row = same_row n r q row (c + t) g (omega arith) (omega arith) in
          h (omega arith) (omega arith) (omega arith))

      inside : (r t : ℕ) → t < k → j ≤ r → r < m → at rows (r * n + (c + t)) ≡ at (done k) (r * n + (c + t))
      inside r t u g h =
          rw (in-columns r t u g h, ← add_assoc (r * n) c t, in_rows r t u g h, shares t u)

      agree : (r q : ℕ) → r < m → q < n → at rows (r * n + q) ≡ at (done k) (r * n + q)
      agree r q h g =
          ⊎_elim
          (λ (l : r < j). out-rows r q g (λ a b d. omega arith) ∙ sym (out-columns r q g (λ a b d. omega arith)))
          (λ (l : j ≤ r).
          ⊎_elim
          (λ (w : q < c). out-rows r q g (λ a b d. omega arith) ∙ sym (out-columns r q g (λ a b d. omega arith)))
          (λ (w : c ≤ q).
          ⊎_elim
          (λ (u : q < c + k). let e : q ≡ c + (q - c) = omega arith in rw e (inside r (q - c) (omega arith) l h))
          (λ (u : c + k ≤ q). out-rows r q g (λ a b d. omega arith) ∙ sym (out-columns r q g (λ a b d. omega arith)))
          (order q (c + k)))
          (order q c))
          (order r j)

      same : 0 < k → rows ≡ done k
      unfolding rows done
      same h =
          ext-matrix nan m n rows (done k) (omega arith)
          (nested-long nan (λ row t. row * n + c + t) (λ row t x. x ⊖ at f t ⊗ at v row) 0 k (omega arith) j A m (omega arith) ∙ sized)
          (nested-long nan (λ q row. row * n + q) (λ q row x. x ⊖ share q A ⊗ at v row) j m (omega arith) c A (c + k) (omega arith) ∙ sized)
          agree

pub block-is : (m n j lo c k : ℕ) (v : List Float) (vtv : Float) (A f R : List Float) → R ≡ less_rows n c k v f A j m
    → ((t : ℕ) → t < k
    → at f t ≡ factor (j * n + (c + t)) (λ row. row * n + (c + t)) (at v j) (λ row. at v row) vtv lo m A)
    → lo ≡ suc j
    → j < m → c + k ≤ n → 0 < k → length A ≡ m * n
    → R ≡ between c (c + k) A (private.reflect_column m n j (at v j) (λ row. at v row) vtv)
unfolding less_rows share column rows
block-is m n j lo c k v vtv A f R e s w low fits some sized =
    e ∙ same m n j v vtv low c A k f fits sized (rw w at s) some ∙ sym (done-is m n j v vtv low c A k fits)
