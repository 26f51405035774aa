-- The system of the free rows: its matrix as a loop fills it row by row, and its least-norm solution, from what the calls promise.
use Rattle.loops.proofs.Common.{ℕ, ◌+◌, ◌-◌, ◌*◌, ◌≤◌, ◌<◌, ◌≡◌, refl, sym, ap, ◌∙◌, Bool, true, false, cond, List, arith, add-one, length, get_or, drop, Float, nan, eq-eqb, ◌++◌}
use lib.Seq.{ext_get_or}
use lib.Dec.{eqb}
use lib.Ieee.{neg}
use Rattle.loops.proofs.Updates.{updated_here, updated-long}
use Rattle.floats.specs.Ops.{at, ◌⊕◌, ◌⊖◌, ◌⊗◌}
use borrow.Author.Tests.{le-leb}
use Rattle.loops.specs.Loops.{turns, tab}
use borrow.Rule.Slice.PartMut.{put_mid}
use Rattle.loops.proofs.Turns.{turns_again}
use Rattle.loops.proofs.Parts.{parts-start, parts_again, parts_done}
use Rattle.loops.proofs.Fill.{tab-length, tab-at}
use Rattle.least_norm.specs.LeastNorm.{least_norm}
use Rattle.least_norm.specs.Promise as promise
use Rattle.box_rows.specs.Rows as box
use Rattle.box_rows.proofs.Matrix.{later}
use Rattle.exact_pass.specs.Pass as pass
use Rattle.exact_pass.specs.Private as private
use Rattle.exact_pass.specs.Private.{Copied, part, column_taken}

-- ---- the matrix, row by row: m₀ is what its place held

module _ (w scale : List Float) (l : List ℕ) (m₀ : List Float) where
  unfoldable row : ℕ → List Float
  row i = private.matrix_row (box.row w (length scale) (get_or l i 0)) scale l (length l)

  rows_long : (i : ℕ) → length (row i) ≡ length l
  unfolding row private.matrix_row
  rows_long i = tab-length (private.scaled (box.row w (length scale) (get_or l i 0)) scale l) (length l)

  pub matrix-start : m₀ ≡ pass.matrix w scale l 0 ++ drop (0 * length l) m₀
  unfolding pass.matrix row private.matrix_row
  matrix-start = parts-start row (length l) rows_long m₀

  pub matrix_again : (i : ℕ) (m r : List Float) → m ≡ pass.matrix w scale l i ++ drop (i * length l) m₀ → r ≡ private.matrix_row (box.row w (length scale) (get_or l i 0)) scale l (length l)
      → put_mid (i * length l) (i * length l + length l - i * length l) m r ≡ pass.matrix w scale l (i + 1) ++ drop ((i + 1) * length l) m₀
  unfolding pass.matrix row private.matrix_row
  matrix_again i m r e f = parts_again row (length l) rows_long m₀ i m r e f

  pub matrix_done : (i : ℕ) (m : List Float) → length m₀ ≡ length l * length l → i ≤ length l → length l ≤ i → m ≡ pass.matrix w scale l i ++ drop (i * length l) m₀ → m ≡ pass.matrix w scale l (length l)
  unfolding pass.matrix row private.matrix_row
  matrix_done i m e f g h = parts_done row (length l) rows_long m₀ i m e f g h

pub ruleset by_rows = (matrix-start, matrix_again, matrix_done)

-- ---- what the solution leaves of a row, with one more of its entries

pub residual_again : (r scale : List Float) (l : List ℕ) (z : List Float) (b : Float) (j : ℕ) {c : ℕ} {s x v e : Float} → s ≡ private.residual_row r scale l z b j → c ≡ get_or l j 0 → x ≡ at scale c → v ≡ at z j → e ≡ at r c → s ⊕ e ⊗ x ⊗ v ≡ private.residual_row r scale l z b (j + 1)
unfolding private.residual_row
residual_again r scale l z b j h c x v e = turns_again _ _ j _ _ h (rw (e, v, x, c))

-- ---- the right-hand side, column by column

module _ (w u_free : List Float) (st : List ℕ) (nu : List Float) (l : List ℕ) (k : ℕ) where
  -- row i after j columns
  abbrev after : ℕ → ℕ → Float
  after j i = private.right_hand_row (box.row w (length nu) (get_or l i 0)) st nu (at u_free (get_or l i 0)) j

  -- the right-hand side after j columns
  unfoldable pub columns : ℕ → List Float
  columns j = tab (after j) k

  pub columns-start : (rhs : List Float) → rhs ≡ tab (λ (i : ℕ). neg (at u_free (get_or l i 0))) k → rhs ≡ columns 0
  unfolding columns private.right_hand_row turns
  columns-start rhs e = e

  module _ (j : ℕ) (rhs rhs' : List Float) (e : rhs ≡ columns j) where
    free-kept : private.is_free st j ≡ true → rhs ≡ columns (j + 1)
    unfolding columns private.right_hand_row turns
    free-kept f =
        ext_get_or nan rhs (columns (j + 1)) (rw (e, tab-length (after j) k, tab-length (after (j + 1)) k)) λ i h.
        let g : i < k = rw (e, tab-length (after j) k) at h in
        rw (e, tab-at (after j) k i nan g, tab-at (after (j + 1)) k i nan g, add-one j, f)

    bound-taken : private.is_free st j ≡ false → column_taken w (length nu) l j (at nu j) k rhs ≡ columns (j + 1)
    unfolding columns private.right_hand_row turns
    bound-taken f =
        let g : ℕ → Float → Float = λ (i : ℕ) (x : Float). x ⊖ at (box.row w (length nu) (get_or l i 0)) j ⊗ at nu j in
        let long : length rhs ≡ k = rw e (tab-length (after j) k) in
        let longer : length (column_taken w (length nu) l j (at nu j) k rhs) ≡ k = updated-long nan (λ (i : ℕ). i) g 0 rhs k (omega arith) ∙ long in
        ext_get_or nan (column_taken w (length nu) l j (at nu j) k rhs) (columns (j + 1)) (longer ∙ sym (tab-length (after (j + 1)) k)) λ i h.
        let m : i < k = omega (arith, longer) in
        let here : get_or rhs i nan ≡ after j i = rw e (tab-at (after j) k i nan m) in
        updated_here nan (λ (i : ℕ). i) g 0 rhs (λ t u a b. omega arith) k i (omega arith) m (omega (arith, long))
        ∙ rw (here, tab-at (after (j + 1)) k i nan m, add-one j, f)

  pub columns_again : (j : ℕ) (rhs rhs' : List Float) → rhs ≡ columns j
      → rhs' ≡ cond (eqb (get_or st j 0) 0) rhs (column_taken w (length nu) l j (at nu j) k rhs) → rhs' ≡ columns (j + 1)
  columns_again j rhs rhs' e f = go (eqb (get_or st j 0) 0) refl f
    where
      go : (c : Bool) → eqb (get_or st j 0) 0 ≡ c
          → rhs' ≡ cond (eqb (get_or st j 0) 0) rhs (column_taken w (length nu) l j (at nu j) k rhs) → rhs' ≡ columns (j + 1)
      go true g h = rw g at h ∙ free-kept j rhs rhs' e g
      go false g h = rw g at h ∙ bound-taken j rhs rhs' e g

  pub columns_done : (j : ℕ) (rhs : List Float) → j ≤ length nu → length nu ≤ j → rhs ≡ columns j → rhs ≡ pass.right_hand_side w u_free st nu l k
  unfolding columns pass.right_hand_side private.right_hand_row
  columns_done j rhs g h e = let q : j ≡ length nu = omega arith in rw q at e

pub ruleset by_columns = (columns-start, columns_again, columns_done)

pub right_hand-length : (w u_free : List Float) (st : List ℕ) (nu : List Float) (l : List ℕ) (k : ℕ) → length (pass.right_hand_side w u_free st nu l k) ≡ k
unfolding pass.right_hand_side private.right_hand_row
right_hand-length w u_free st nu l k = tab-length (private.right_hand_at w u_free st nu l) k

-- ---- the least-norm call accepts what it is lent

replied : (k : ℕ) (a b x : List Float) (room : ℕ) → k ≤ 32 → length a ≡ k * k → length b ≡ k → length x ≡ k → 1056 ≤ room → promise.reply k k a b x room ≡ promise.answered (least_norm k k a b)
unfolding promise.reply
replied k a b x room f p q r s = rw (le-leb k 32 f, eq-eqb (length a) (k * k) p, eq-eqb (length b) k q, eq-eqb (length x) k r, le-leb 1056 room s)

module _ {a x work : List Float} (b : List Float) (s : private.SolveLent (length b) a x work) where
  abbrev reply : promise.Reply
  reply = promise.reply (length b) (length b) a b x (length work)

  pub solved : (x' work' : List Float) → x' ≡ promise.x_left reply x → drop (promise.used reply) work' ≡ drop (promise.used reply) work → private.Solved a b work x' work'
  solved x' work' e g = let t = replied (length b) a b x (length work) s.few s.matrix refl s.solution s.workspace in record { solution = rw t at e; workspace = rw t at g }

-- ---- the calls of `from_system`: y₁ is the right-hand side, z and y₂ are the target's, y₃ is the direction

module _ (w u_free scale : List Float) (st : List ℕ) (nu : List Float) (l : List ℕ) (y₁ work₀ work₁ work₂ : List Float) where
  module _ (sided : y₁ ≡ pass.right_hand_side w u_free st nu l (length l)) (copied : Copied y₁ 1056 work₀ work₁) (few : length l ≤ 32) (m z : List Float) (f : private.Solved m y₁ work₁ z work₂) where
    side-length : length y₁ ≡ length l
    side-length = ap length sided ∙ right_hand-length w u_free st nu l (length l)

    side-kept : part 1056 (length l) work₂ ≡ pass.right_hand_side w u_free st nu l (length l)
    side-kept = rw (f.workspace, ← side-length) copied.part ∙ sided

    side_work : drop 1088 work₂ ≡ drop 1088 work₀
    side_work = later 1056 1088 work₂ work₁ (omega arith) f.workspace ∙ later (1056 + length y₁) 1088 work₁ work₀ (omega (arith, side-length, few)) copied.after

    module _ (y₂ : List Float) (b : Bool) (e : m ≡ pass.matrix w scale l (length l)) (g : private.Tested w scale l (part 1056 (length l) work₂) z b y₂) where
      target : private.targeted z y₂ b ≡ pass.target w u_free scale st nu l
      unfolding pass.target private.too_large
      target =
          let zed : z ≡ (least_norm (length l) (length l) (pass.matrix w scale l (length l)) (pass.right_hand_side w u_free st nu l (length l))).x = rw (side-length, e, sided) at f.solution in
          rw (g.downhill, g.inconsistent, side-kept, zed)

      pub directed-run : (y₃ work₃ : List Float) → y₃ ≡ pass.direction b scale l z nu y₂ → Copied y₃ 1056 work₂ work₃ → length y₃ ≡ length l → private.Directed (pass.target w u_free scale st nu l) scale l nu work₀ b work₃
      directed-run y₃ work₃ d laid long =
          record {
            direction = rw (← target) (rw (← long) laid.part ∙ d);
            inconsistent = rw (← target);
            workspace = later (1056 + length y₃) 1088 work₃ work₂ (omega (arith, long, few)) laid.after ∙ side_work;
          }
