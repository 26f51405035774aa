-- Straight-line runs: what the calls of a function leave, put together, is its definition. The last call comes first.
use Prim.Native.Nat.{ℕ, zero, suc, ◌+◌, ◌-◌, ◌*◌, ◌≤◌, ◌<◌, min}
use mathlib.Core.Path.{◌≡◌, refl, sym, ◌∙◌, ap}
use mathlib.Core.Bool.{Bool, true, false}
use mathlib.Core.List.{List, ◌++◌}
use native.Mathlib.Omega.{arith}
use native.Mathlib.Nat.{not-suc-le-zero}
use native.Mathlib.Numerals.{add-one}
use borrow.Author.Tests.{eq-eqb, ne_eqb, le-ltb}
use lib.ListN.{length, set, replicate, take, drop, length-set, length-replicate}
use Rattle.std.proofs.lemmas.List.{get_or-replicate, get_or-take}
use lib.Seq.{length-take-le, drop-append-add, drop-drop, get_or-set_same, get_or-set_other}
use Rattle.std.specs.Prelude.{Ok}
use lib.Ieee.{Float, nan, binary64, add, eq}
use Rattle.loops.specs.Loops.{between, tab, turns}
use Rattle.loops.specs.Updates.{updated}
use Rattle.loops.proofs.Turns.{between_shift, between_more, turns-from, downward-from, stays}
use Rattle.loops.proofs.Updates.{between_ext, updated_here, updated-long}
use Rattle.floats.specs.Ops.{◌⊕◌, ◌⊖◌, ◌⊗◌, ◌⊘◌, at, 0ᶠ, 2ᶠ}
use Rattle.floats.specs.Sums.{sum}
use Rattle.floats.proofs.Sums.{gathered_ext}
use Rattle.least_norm.specs.declared.Pivot.{Pivot}
use Rattle.least_norm.specs.declared.Scan.{Scan}
use Rattle.least_norm.specs.declared.Householder.{Householder}
use Rattle.least_norm.specs.Reflector as reflector
use Rattle.least_norm.specs.LeastNorm as least
use Rattle.least_norm.specs.Private as private
use Rattle.least_norm.specs.Promise as promise
use Rattle.least_norm.specs.Blocks.{squares}
use Rattle.least_norm.proofs.Blocks.{norms_are}

-- ---- a reflector on other places and entries that are the same

module _ (first : ℕ) (π ρ : ℕ → ℕ) (v0 : Float) (v w : ℕ → Float) (vtv : Float) (lo hi : ℕ) (z : List Float)
    (some : lo ≤ hi) (places : (t : ℕ) → lo ≤ t → t < hi → π t ≡ ρ t) (entries : (t : ℕ) → lo ≤ t → t < hi → v t ≡ w t)
  where
    factor_ext : private.factor first π v0 v vtv lo hi z ≡ private.factor first ρ v0 w vtv lo hi z
    unfolding private.factor
    factor_ext =
        ap (λ (x : Float). 2ᶠ ⊗ x ⊘ vtv)
        (gathered_ext (add binary64) (v0 ⊗ at z first) _ lo _ hi some λ t l u. rw (places t l u, entries t l u))

    pub reflect_ext : reflector.reflect first π v0 v vtv lo hi z ≡ reflector.reflect first ρ v0 w vtv lo hi z
    unfolding reflector.reflect private.factor updated
    reflect_ext = rw factor_ext (between_ext _ _ _ lo hi some λ t x l u. rw (places t l u, entries t l u))

-- u0's product comes first, then those of u
pub reflect-run : (i : ℕ) (u0 : Float) (u : List Float) (utu : Float) (lo : ℕ) (z z1 r : List Float) (s : Float)
    → r ≡ private.less (λ (t : ℕ). t) (2ᶠ ⊗ s ⊘ utu) (λ (t : ℕ). at u t) lo (length z1) z1
    → z1 ≡ set z i (at z i ⊖ 2ᶠ ⊗ s ⊘ utu ⊗ u0)
    → s ≡ sum (u0 ⊗ at z i) (λ (t : ℕ). at u t ⊗ at z t) lo (length z)
    → r ≡ reflector.reflect i (λ (t : ℕ). t) u0 (λ (t : ℕ). at u t) utu lo (length z) z
unfolding reflector.reflect private.less
reflect-run i u0 u utu lo z z1 r s e w f = rw (e, w, length-set, f)

-- ---- the pivot

pub block-picked : (a : List Float) (m n j c k : ℕ) (best r : Pivot) (s : List Float)
    → r ≡ between 0 k best (λ (t : ℕ) (p : Pivot). private.picked (c + t) (at s t) p) → s ≡ squares a n c k (replicate k 0ᶠ) j m
    → j ≤ m → r ≡ between c (c + k) best (private.better a m n j)
unfolding private.better
block-picked a m n j c k best r s e f h =
    e ∙ rw f
    (between_ext best _ _ 0 k (omega arith)
    λ t p l u. rw (norms_are a n j m c k (replicate k 0ᶠ) (omega (arith, length-replicate k 0ᶠ)) h t u (get_or-replicate k t 0ᶠ nan u)))
    ∙ sym (between_shift best _ c k)

pub find-run : (a : List Float) (m n j : ℕ) (s : List Float) (e g : Scan)
    → private.Scanned a m n j e.next e.best 1 g → private.Scanned a m n j (j + 1) (record { col = j; norm = at s 0 }) 4 e
    → s ≡ squares a n j 1 (replicate 1 0ᶠ) j m → j ≤ m → g.best ≡ least.pivot a m n j
unfolding least.pivot private.better private.picked
find-run a m n j s e g sg se es h =
    let q : at s 0 ≡ least.norm2 a n (j + 0) j m = rw es (norms_are a n j m j 1 (replicate 1 0ᶠ) (omega arith) h 0 (omega arith) refl) in
    let z : j + 0 ≡ j = omega arith in
    let w : g.next ≡ n = omega (arith, sg.to, sg.left) in
    let x : e.best ≡ between (suc j) e.next (record { col = j; norm = least.norm2 a n j j m }) (private.better a m n j) =
    rw (add-one, q, z) at se.pivot in
    let y : g.best ≡ between e.next n e.best (private.better a m n j) = rw w at sg.pivot in
    between_more _ _ (suc j) e.next n e.best g.best y x (omega (arith, se.from)) se.to

-- ---- a column's reflector

module _ (a : List Float) (m n j : ℕ) (v v1 : List Float) (sigma beta : Float)
    (copied : v1 ≡ updated nan (λ (row : ℕ). row) (λ (row : ℕ) (x : Float). at a (row * n + j)) j m v)
    (room : m ≤ length v) (low : j < m)
    (sums : sigma ≡ sum 0ᶠ (λ (t : ℕ). at v1 t ⊗ at v1 t) (j + 1) m)
    (signed : beta ≡ reflector.beta (at v1 j) sigma) where
  entry : (row : ℕ) → j ≤ row → row < m → at v1 row ≡ at a (row * n + j)
  entry row l u = rw copied (updated_here nan (λ row. row) (λ row x. at a (row * n + j)) j v (λ t w h e. omega arith) m row l u (omega arith))

  long : length v1 ≡ length v
  long = rw copied (updated-long nan (λ row. row) (λ row x. at a (row * n + j)) j v m (omega arith))

  sigma-is : sigma ≡ least.norm2 a n j (suc j) m
  unfolding least.norm2
  sigma-is = sums ∙ rw add-one (gathered_ext (add binary64) 0ᶠ _ (suc j) _ m low λ t l u. rw (entry t (omega arith) u))

  parts : record { beta = beta; vtv = (at v1 j ⊖ beta) ⊗ (at v1 j ⊖ beta) ⊕ sigma } ≡ private.householder a m n j
  unfolding private.householder
  parts = rw (signed, sigma-is, entry j (omega arith) low)

  pub householder-run : private.Reflects a m n j
      (record { beta = beta; vtv = (at v1 j ⊖ beta) ⊗ (at v1 j ⊖ beta) ⊕ sigma })
      (set v1 j (at v1 j ⊖ beta))
  householder-run =
      record {
        parts = parts;
        first = rw (← entry j (omega arith) low) (get_or-set_same v1 j (at v1 j ⊖ beta) nan (omega (arith, long)));
        below = λ row l u. get_or-set_other v1 j row (at v1 j ⊖ beta) nan (λ e. omega arith) ∙ entry row (omega arith) u;
      }

-- the part that the reflector is lent holds all of it
pub reflects_front : (a : List Float) (m n j : ℕ) (h : Householder) (v : List Float) → private.Reflects a m n j h v → j < m
    → private.Reflects a m n j h (take m v)
reflects_front a m n j h v e l =
    record {
      parts = e.parts;
      first = get_or-take m v j nan l ∙ e.first;
      below = λ row g u. get_or-take m v row nan u ∙ e.below row g u;
    }

pub columns-run : (n j c d : ℕ) (f : ℕ → List Float → List Float) (a a1 a2 : List Float) → a2 ≡ between c d a1 f
    → a1 ≡ between (j + 1) c a f → j + 1 ≤ c → c ≤ d → d ≤ n → n < d + 1 → a2 ≡ between (suc j) n a f
columns-run n j c d f a a1 a2 e2 e1 h1 h2 h3 h4 = let x : a1 ≡ between (suc j) c a f = rw add-one at e1 in
    let q : d ≡ n = omega arith in
    rw q at (between_more a f (suc j) c d a1 a2 e2 x (omega arith) h2)

module _ (m n j : ℕ) (a b v : List Float) (h : Householder) (refl_of : private.Reflects a m n j h v) (low : j < m) (small : j < n) where
  v0 : Float
  v0 = at a (j * n + j) ⊖ h.beta

  columns-same : between (suc j) n a (private.reflect_column m n j (at v j) (λ row. at v row) h.vtv)
      ≡ between (suc j) n a (private.reflect_column m n j v0 (λ row. at a (row * n + j)) h.vtv)
  unfolding private.reflect_column v0
  columns-same =
      between_ext a _ _ (suc j) n small λ c x l u.
      rw refl_of.first
      (reflect_ext (j * n + c) (λ row. row * n + c) (λ row. row * n + c) v0 (λ row. at v row)
      (λ row. at a (row * n + j)) h.vtv (suc j) m x low (λ t l u. refl) refl_of.below)

  side_same : between 0 (0 + 1) b (private.reflect_column m 1 j (at v j) (λ (row : ℕ). at v row) h.vtv)
      ≡ reflector.reflect j (λ row. row) v0 (λ row. at a (row * n + j)) h.vtv (suc j) m b
  unfolding private.reflect_column v0 between turns
  side_same =
      let q : j * 1 + 0 ≡ j = omega arith in
      rw (refl_of.first, q)
      (reflect_ext j (λ row. row * 1 + 0) (λ row. row) v0 (λ row. at v row) (λ row. at a (row * n + j)) h.vtv
      (suc j) m b low (λ t l u. omega arith) refl_of.below)

  pub eliminated-run : (p : List ℕ) (a1 a2 a3 b1 : List Float) → a3 ≡ private.zero_below n j a2 m
      → a2 ≡ set a1 (j * n + j) h.beta
      → b1 ≡ between 0 (0 + 1) b (private.reflect_column m 1 j (at v j) (λ (row : ℕ). at v row) h.vtv)
      → a1 ≡ between (suc j) n a (private.reflect_column m n j (at v j) (λ row. at v row) h.vtv)
      → least.factors a3 b1 p ≡ least.eliminated m n j (least.factors a b p)
  unfolding least.eliminated private.householder private.reflect_column private.zero_below v0
  eliminated-run p a1 a2 a3 b1 e3 e2 eb e1 = rw (e3, e2, eb, e1, columns-same, side_same, refl_of.parts)

pub reduce-run : (m n j : ℕ) (a b : List Float) (p : List ℕ) (a2 b1 a1 : List Float) (p1 : List ℕ) (q : Pivot)
    → ((r : List ℕ) → least.factors a2 b1 r ≡ least.eliminated m n j (least.factors a1 b r))
    → ((b : List Float) → least.factors a1 b p1 ≡ least.brought m n j q.col (least.factors a b p))
    → eq q.norm 0ᶠ ≡ false → q ≡ least.pivot a m n j
    → private.standing true j (least.factors a2 b1 p1) ≡ least.reduce m n j (least.going (least.factors a b p))
unfolding least.reduce
reduce-run m n j a b p a2 b1 a1 p1 q er eb et eq0 = let t : eq (least.pivot a m n j).norm 0ᶠ ≡ false = rw (← eq0) et in rw (er p1, eb b, t, ← eq0)

pub reduce-ended : (m n j : ℕ) (a b : List Float) (p : List ℕ) (a1 : List Float) (p1 : List ℕ) (q : Pivot)
    → ((b : List Float) → least.factors a1 b p1 ≡ least.brought m n j q.col (least.factors a b p)) → eq q.norm 0ᶠ ≡ true
    → q ≡ least.pivot a m n j
    → private.standing false j (least.factors a1 b p1) ≡ least.reduce m n j (least.going (least.factors a b p))
unfolding least.reduce
reduce-ended m n j a b p a1 p1 q eb et eq0 = let t : eq (least.pivot a m n j).norm 0ᶠ ≡ true = rw (← eq0) et in rw (eb b, t, ← eq0)

-- ---- the columns' loop

pub reduced-from : (m n : ℕ) (a b : List Float) (p : List ℕ) → p ≡ tab (λ (i : ℕ). i) n → least.going (least.factors a b p) ≡ least.reduced m n a b 0
unfolding least.reduced
reduced-from m n a b p e = rw e (turns-from _ _)

module _ (m n : ℕ) (a b : List Float) (j : ℕ) (s t : least.Factors) (r : Bool)
    (work : private.standing r j t ≡ least.reduce m n j (least.going s)) (so_far : least.going s ≡ least.reduced m n a b j)
  where
    next : private.standing r j t ≡ least.reduced m n a b (suc j)
    unfolding least.reduced turns
    next = work ∙ ap (least.reduce m n j) so_far

    pub reduced_again : r ≡ true → least.going t ≡ least.reduced m n a b (j + 1)
    reduced_again h = let g : private.standing true j t ≡ least.reduced m n a b (suc j) = rw h at next in rw add-one g

    pub reduced-ended : (k : ℕ) → r ≡ false → j < k → private.Stopped k (least.reduced m n a b k) j t
    unfolding least.reduced least.reduce
    reduced-ended k h l =
        let g : private.standing false j t ≡ least.reduced m n a b (suc j) = rw h at next in
        let i : least.reduced m n a b k ≡ least.ended j t = stays (least.reduce m n)
        (least.going (least.factors a b (tab (λ (i : ℕ). i) n))) (least.ended j t) (suc j) (sym g) (λ i b. refl) k l in
        rw i (record { columns = refl; most = omega arith; factors = refl })

-- ---- the rank

-- all of the first i lead; the next does too, or it ends the count
module _ (n : ℕ) (a : List Float) (i : ℕ) (all : i ≡ least.leading n a i) (l : Bool) (this : l ≡ private.leads n a i) where
  pub leading_again : l ≡ true → i + 1 ≡ least.leading n a (i + 1)
  unfolding least.leading private.counted private.leads turns
  leading_again t = let u : private.leads n a i ≡ true = sym this ∙ t in rw (add-one, ← all, eq-eqb i i refl, u)

  leading_here : l ≡ false → least.leading n a (suc i) ≡ i
  unfolding least.leading private.counted private.leads turns
  leading_here t = let u : private.leads n a i ≡ false = sym this ∙ t in rw (← all, eq-eqb i i refl, u)

  counted_still : (j : ℕ) → i < j → private.counted n a j i ≡ i
  unfolding private.counted
  counted_still j h = rw (ne_eqb i j (λ e. omega arith))

  pub leading-ended : (k : ℕ) → l ≡ false → i < k → i ≡ least.leading n a k
  unfolding least.leading private.counted private.leads
  leading-ended k t h = sym (stays (private.counted n a) 0 i (suc i) (leading_here t) (λ j b. counted_still j (omega arith)) k h)

-- ---- the solution

pub turned_none : (n rank : ℕ) (right y : List Float) → n ≤ rank → y ≡ least.turned n rank right y (private.first_turned n rank)
unfolding private.first_turned least.turned
turned_none n rank right y h = rw (le-ltb rank n h) (turns-from _ _)

pub cleared-none : (n rank : ℕ) (a right : List Float) (k : ℕ) → right ≡ replicate k 0ᶠ → k ≡ rank * n → n ≤ rank
    → least.trapezoid a right ≡ least.cleared n rank a (private.last_cleared n rank)
unfolding private.last_cleared least.cleared
cleared-none n rank a right k e q h = rw (le-ltb rank n h, e, q) (downward-from _ _ rank)

pub solved-run : (n rank : ℕ) (a b : List Float) (perm : List ℕ) (x z y u a1 : List Float)
    → x ≡ least.unpermuted (length perm) perm z (length perm) → length perm ≡ n
    → z ≡ least.turned n rank u y (private.first_turned n rank) → y ≡ least.substituted n rank a1 b 0
    → least.trapezoid a1 u ≡ least.cleared n rank a (private.last_cleared n rank) → 0 < rank
    → least.solution rank a1 b x ≡ least.solved n (least.factors a b perm) rank
unfolding least.solved private.last_cleared private.first_turned
solved-run n zero a b perm x z y u a1 ex q ez ey et h = absurd (not-suc-le-zero h)
solved-run n (suc r) a b perm x z y u a1 ex q ez ey et h = rw (← et, ex, q, ez, ey)

pub solved-none : (n rank : ℕ) (a b : List Float) (perm : List ℕ) (x : List Float) → rank ≡ 0 → x ≡ replicate n 0ᶠ
    → least.solution rank a b x ≡ least.solved n (least.factors a b perm) rank
unfolding least.solved
solved-none n rank a b perm x e ex = rw (e, ex)

-- the front of a list changed, what lies past it is as it was
pub past-front : (w v : List Float) (k l : ℕ) → length v ≡ length (take k w) → k ≤ length w → k ≤ l → drop l (v ++ drop k w) ≡ drop l w
past-front w v k l e h g =
    let p : length v ≡ k = e ∙ length-take-le k w h in
    let q : l ≡ length v + (l - k) = omega arith in
    let r : l ≡ k + (l - k) = omega arith in
    ap (λ (x : ℕ). drop x (v ++ drop k w)) q ∙ drop-append-add v (drop k w) (l - k) ∙ drop-drop (l - k) k w ∙ ap (λ (x : ℕ). drop x w) (sym r)

pub least-run : (m n : ℕ) (a b : List Float) (k c rank : ℕ) (s : least.Factors) (x a2 : List Float)
    → least.solution rank a2 s.b x ≡ least.solved n s rank → rank ≡ least.leading n s.a c
    → private.Stopped k (least.reduced m n a b k) c s → k ≡ min m n
    → least.solution rank a2 s.b x ≡ least.least_norm m n a b
unfolding least.least_norm
least-run m n a b k c rank s x a2 ea er es ek = rw (← ek, ← es.factors, ← es.columns, ← er) ea

-- ---- the public call

module _ (m n : ℕ) (a b x : List Float) (room : ℕ) where
  pub answer : (rank : ℕ) (a1 b1 x1 w w1 : List Float) → least.solution rank a1 b1 x1 ≡ least.least_norm m n a b
      → drop 1056 w1 ≡ drop 1056 w → rank ≤ 32 → promise.fits m n a b x room ≡ true
      → promise.Replied (promise.reply m n a b x room) (Ok rank) a a1 b b1 x x1 w w1
  unfolding promise.reply
  answer rank a1 b1 x1 w w1 ea ew er e =
      rw (e, ← ea) (record { result_is = refl; rank_small = er; a_is = refl; b_is = refl; x_is = refl; workspace_left = ew })
