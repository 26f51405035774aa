-- A row of a matrix that is kept by rows, read as a list of its own or changed in its place.
use Prim.Native.Nat.{ℕ, zero, suc, ◌+◌, ◌-◌, ◌*◌, ◌≤◌, ◌<◌}
use mathlib.Core.Path.{◌≡◌, refl, sym, ◌∙◌, ap}
use mathlib.Core.List.{List, ◌++◌}
use native.Mathlib.Omega.{arith}
use native.Mathlib.Numerals.{add-one}
use native.Mathlib.Nat.{add-zero, add-suc, suc-mul}
use borrow.Rule.Slice.PartMut.{put_mid}
use lib.ListN.{length, set, take, drop, length-drop, length-set, get_or-append}
use lib.Seq.{length-take-le, get_or-append-add, get_or-set_same}
use lib.Ieee.{Float, nan, binary64, add, sub}
use Rattle.std.proofs.lemmas.List.{get_or-take, get_or-drop, set-append_left, set-append_right, take-append-drop}
use Rattle.loops.specs.Loops.{turns}
use Rattle.loops.specs.Updates.{updated}
use Rattle.loops.proofs.Index.{row-end, place}
use Rattle.loops.proofs.Turns.{downward_again}
use Rattle.loops.proofs.Updates.{updated-start, updated-step, updated-long, updated_away}
use Rattle.floats.specs.Ops.{◌⊖◌, ◌⊗◌, ◌⊘◌, at, 2ᶠ}
use Rattle.floats.specs.Sums.{sum, difference}
use Rattle.floats.proofs.Sums.{gathered_ext}
use Rattle.least_norm.specs.Reflector as reflector
use Rattle.least_norm.specs.LeastNorm as least
use Rattle.least_norm.specs.Private as private
use Rattle.least_norm.specs.Private.{row}
use Rattle.least_norm.proofs.Runs.{reflect_ext}

-- ---- row i of m rows of n entries, read

module _ (a : List Float) (m n i : ℕ) (low : i < m) (holds : m * n ≤ length a) where
  span : (i + 1) * n - i * n ≡ n
  span = omega (arith, suc-mul i n)

  pub row-length : length (row n i a) ≡ n
  row-length = rw span (length-take-le n (drop (i * n) a) (omega (arith, length-drop (i * n) a, row-end m n i low)))

  pub row_at : (t : ℕ) → t < n → at (row n i a) t ≡ at a (i * n + t)
  row_at t h = rw (span, get_or-take n (drop (i * n) a) t nan h, get_or-drop)

  module _ (x : List Float) (is : x ≡ row n i a) where
    pub row_norm-run : (rank : ℕ) (s r : Float) → r ≡ sum s (λ (t : ℕ). at x t ⊗ at x t) rank n → rank ≤ n
        → r ≡ private.row_norm2 n rank i a s
    unfolding private.row_norm2
    row_norm-run rank s r e h = (rw is at e) ∙ gathered_ext (add binary64) s _ rank _ n h λ t l u. rw (row_at t u)

    pub known-run : (rank : ℕ) (b y : List Float) (r : Float)
        → r ≡ difference (at b i) (λ (t : ℕ). at x t ⊗ at y t) (i + 1) rank → i < rank → rank ≤ n
        → r ≡ private.known n rank a b y i
    unfolding private.known
    known-run rank b y r e h g =
        rw (← add-one i)
        ((rw is at e) ∙ gathered_ext (sub binary64) (at b i) _ (i + 1) _ rank (omega arith) λ t l u. rw (row_at t (omega arith)))

    pub turn_run : (rank : ℕ) (y r : List Float) (utu : Float)
        → r ≡ reflector.reflect i (λ (t : ℕ). t) (at x i) (λ (t : ℕ). at x t) utu rank (length y) y
        → length y ≡ n → rank ≤ n → i < n
        → r ≡ reflector.reflect i (λ (t : ℕ). t) (at a (i * n + i)) (λ (t : ℕ). at a (i * n + t)) utu rank n y
    turn_run rank y r utu e l h g =
        (rw is at e)
        ∙ rw (l, row_at i g)
        (reflect_ext i (λ t. t) (λ t. t) (at a (i * n + i)) _ _ utu rank n y h (λ t f u. refl) (λ t f u. row_at t u))

-- ---- a row at place p, changed: l is what stands there now

module _ (a : List Float) (p n : ℕ) (inside : p + n ≤ length a) where
  placed : List Float → List Float
  placed l = put_mid p n a l

  first : length (take p a) ≡ p
  first = length-take-le p a (omega arith)

  placed_set : (l : List Float) (t : ℕ) (v : Float) → t < length l → placed (set l t v) ≡ set (placed l) (p + t) v
  unfolding placed
  placed_set l t v h =
      let q : p + t - p ≡ t = omega arith in
      rw (set-append_right (take p a) (l ++ drop n (drop p a)) p (p + t) v first (omega arith), q, set-append_left l (drop n (drop p a)) t v h)

  placed_at : (l : List Float) (t : ℕ) → t < length l → at (placed l) (p + t) ≡ at l t
  unfolding placed
  placed_at l t h = rw first at (get_or-append-add (take p a) (l ++ drop n (drop p a)) t nan) ∙ get_or-append l (drop n (drop p a)) nan t h

  placed_more : (g : ℕ → Float → Float) (lo : ℕ) (l : List Float) (k : ℕ) → lo + k ≤ length l
      → updated nan (λ t. p + t) g lo (lo + k) (placed l) ≡ placed (updated nan (λ t. t) g lo (lo + k) l)
  placed_more g lo l zero h = rw (add-zero, ← updated-start, ← updated-start)
  placed_more g lo l (suc k) h =
      let s : List Float = updated nan (λ t. t) g lo (lo + k) l in
      let w : lo + k < length s = omega (arith, updated-long nan (λ t. t) g lo l (lo + k) (omega arith)) in
      rw (
        add-suc,
        updated-step nan (λ t. p + t) g lo (placed l) (lo + k) (omega arith),
        updated-step nan (λ t. t) g lo l (lo + k) (omega arith),
        placed_set s (lo + k) (g (lo + k) (at s (lo + k))) w,
        placed_more g lo l k (omega arith),
        placed_at s (lo + k) w,
      )

  placed_updated : (g : ℕ → Float → Float) (lo hi : ℕ) (l : List Float) → lo ≤ hi → hi ≤ length l
      → updated nan (λ t. p + t) g lo hi (placed l) ≡ placed (updated nan (λ t. t) g lo hi l)
  placed_updated g lo hi l h k = let q : hi ≡ lo + (hi - lo) = omega arith in rw q (placed_more g lo l (hi - lo) (omega arith))

  part : List Float
  part = take n (drop p a)

  part-length : length part ≡ n
  unfolding part
  part-length = length-take-le n (drop p a) (omega (arith, length-drop p a))

  unchanged : placed part ≡ a
  unfolding placed part
  unchanged = rw (take-append-drop, take-append-drop)

  module _ (i : ℕ) (u0 : Float) (u : ℕ → Float) (utu : Float) (lo : ℕ) (i-in : i < n) (lo-in : lo ≤ n) where
    reflect_placed : reflector.reflect (p + i) (λ t. p + t) u0 u utu lo n (placed part) ≡ placed (reflector.reflect i (λ t. t) u0 u utu lo n part)
    unfolding reflector.reflect
    reflect_placed =
        let s : sum (u0 ⊗ at (placed part) (p + i)) (λ t. u t ⊗ at (placed part) (p + t)) lo n ≡ sum (u0 ⊗ at part i) (λ t. u t ⊗ at part t) lo n =
        rw (placed_at part i (omega (arith, part-length)))
        (gathered_ext (add binary64) (u0 ⊗ at part i) _ lo _ n lo-in λ t l h. rw (placed_at part t (omega (arith, part-length)))) in
        let f : Float = 2ᶠ ⊗ sum (u0 ⊗ at part i) (λ t. u t ⊗ at part t) lo n ⊘ utu in
        let w : List Float = set part i (at part i ⊖ f ⊗ u0) in
        rw (s, placed_at part i (omega (arith, part-length)), ← placed_set part i (at part i ⊖ f ⊗ u0) (omega (arith, part-length)))
        (placed_updated (λ t x. x ⊖ f ⊗ u t) lo n w lo-in (omega (arith, part-length, length-set part i (at part i ⊖ f ⊗ u0))))

pub reflect_row-run : (a u : List Float) (i rest k : ℕ) (utu : Float) (r : List Float)
    → r ≡ reflector.reflect i (λ (t : ℕ). t) (at u i) (λ (t : ℕ). at u t) utu rest
    (length (take (k * length u + length u - k * length u) (drop (k * length u) a)))
    (take (k * length u + length u - k * length u) (drop (k * length u) a))
    → k ≤ i → suc i * length u ≤ length a → i < length u → rest ≤ length u
    → put_mid (k * length u) (k * length u + length u - k * length u) a r ≡ private.reflect_row u i rest utu k a
unfolding private.reflect_row placed part
reflect_row-run a u i rest k utu r e h f g l =
    let n = length u in
    let z : k * n + n - k * n ≡ n = omega arith in
    let s : k * n + n ≤ length a = omega (arith, row-end (suc i) n k (omega arith)) in
    let x : r ≡ reflector.reflect i (λ t. t) (at u i) (λ t. at u t) utu rest n (take n (drop (k * n) a)) =
    rw (part-length a (k * n) n s) at (rw z at e) in
    let y = reflect_placed a (k * n) n s i (at u i) (λ t. at u t) utu rest g l in
    rw (z, x) (sym y ∙ rw (unchanged a (k * n) n s))

-- ---- one row cleared, as LeastNorm.antt has it: the reflector is read from the list, in place of the row

turns_ext : {S : Type 0} (k : ℕ) (s : S) (f g : ℕ → S → S) → ((t : ℕ) (x : S) → f t x ≡ g t x) → turns k s f ≡ turns k s g
unfolding turns
turns_ext zero s f g e = refl
turns_ext (suc k) s f g e = e k (turns k s f) ∙ ap (g k) (turns_ext k s f g e)

module _ (n rank i : ℕ) (a right : List Float) (low : i < rank) (wide : rank ≤ n) (sized : length right ≡ rank * n) (u0 : Float) where
  abbrev pub kept : List Float
  kept = private.kept_row n rank i a (set right (i * n + i) u0)

  kept-long : length kept ≡ rank * n
  unfolding private.kept_row
  kept-long =
      updated-long nan (λ c. i * n + c) (λ c x. at a (i * n + c)) rank (set right (i * n + i) u0) n wide ∙ rw length-set sized

  kept-first : at kept (i * n + i) ≡ u0
  unfolding private.kept_row
  kept-first =
      updated_away nan (λ c. i * n + c) (λ c x. at a (i * n + c)) rank (set right (i * n + i) u0) n (i * n + i) wide (λ t l u e. omega arith)
      ∙ get_or-set_same right (i * n + i) u0 nan (omega (arith, place rank n i i low (omega arith)))

  pub rows-kept : (utu : Float)
      → private.reflect_rows (row n i kept) i rank utu a (suc i)
      ≡ turns (suc i) a λ k x. reflector.reflect (k * n + i) (λ c. k * n + c) u0 (λ c. at kept (i * n + c)) utu rank n x
  unfolding private.reflect_rows private.reflect_row
  rows-kept utu =
      turns_ext (suc i) a _ _ λ k x.
      rw (row-length kept rank n i low (omega (arith, kept-long)), row_at kept rank n i low (omega (arith, kept-long)) i (omega arith), kept-first)
      (reflect_ext (k * n + i) (λ c. k * n + c) (λ c. k * n + c) u0 _ _ utu rank n x wide (λ c l u. refl)
      (λ c l u. row_at kept rank n i low (omega (arith, kept-long)) c u))

pub cleared_again : (n rank k : ℕ) (a₀ a right : List Float) (x : least.Trapezoid) → 0 < k → k ≤ rank → rank ≤ n
    → length right ≡ rank * n → least.trapezoid a right ≡ least.cleared n rank a₀ k
    → x ≡ private.clear n rank (k - 1) (least.trapezoid a right) → x ≡ least.cleared n rank a₀ (k - 1)
unfolding least.cleared private.clear private.row_norm2 private.kept_row
cleared_again n rank k a₀ a right x h g wide sized e f =
    downward_again _ _ rank k (least.trapezoid a right) x h g e
    (f ∙ rw (rows-kept n rank (k - 1) a right (omega arith) wide sized _ _) refl)
