-- Where a loop writes every place of a list, what stood there before does not show: so the solution at full rank needs
-- no zeros to start from. The columns' order has every column, since it starts so and only exchanges two.
use Prim.Native.Nat.{ℕ, zero, suc, ◌+◌, ◌-◌, ◌*◌, ◌≤◌, ◌<◌}
use mathlib.Core.Path.{◌≡◌, refl, sym, ◌∙◌, ap, subst}
use mathlib.Core.Bool.{Bool, true, false, cond}
use mathlib.Core.List.{List, [], ◌∷◌}
use mathlib.Core.Logic.{⊎_elim, ∥∥₁_elim}
use native.Mathlib.Omega.{arith}
use native.Mathlib.Nat.{eq-or-lt_of_le}
use borrow.Author.Tests.{eqb-true, eqb-false}
use denote.Struct.Props.{props}
use lib.Dec.{eqb}
use lib.ListN.{length, get_or, set, replicate, length-set, length-replicate, get_or-append}
use lib.Seq.{get_or-set_same, get_or-set_other, get_or_at, ext_get_or}
use lib.Ieee.{Float, nan, binary64, sub, lt, eq}
use Rattle.loops.specs.Loops.{turns, between, downward, tab, swap}
use Rattle.loops.proofs.Turns.{turns_keep}
use Rattle.loops.proofs.Fill.{tab-length}
use Rattle.floats.specs.Ops.{◌⊗◌, ◌⊘◌, at, 0ᶠ}
use Rattle.floats.proofs.Sums.{gathered_ext}
use Rattle.least_norm.specs.declared.Pivot.{Pivot}
use Rattle.least_norm.specs.LeastNorm as least
use Rattle.least_norm.specs.Starts as starts
use Rattle.least_norm.specs.Private as private
use Rattle.least_norm.proofs.Runs.{solved-run, turned_none, cleared-none}

-- ---- the columns' order

module _ (perm : List ℕ) (y x z : List Float) (same : length x ≡ length z) where
  put : ℕ → List Float → List Float
  put j l = set l (get_or perm j 0) (at y j)

  put-long : (l : List Float) (k : ℕ) → length (turns k l put) ≡ length l
  unfolding turns put
  put-long l zero = refl
  put-long l (suc k) = rw length-set (put-long l k)

  put_hit : (k p j : ℕ) → j < k → get_or perm j 0 ≡ p → p < length x → at (turns k x put) p ≡ at (turns k z put) p
  unfolding turns put
  put_hit zero p j l e h = absurd (omega arith)
  put_hit (suc k) p j l e h = go (eqb p (get_or perm k 0)) refl (λ w. put_hit k p j w e h)
    where
      go : (b : Bool) → eqb p (get_or perm k 0) ≡ b → (j < k → at (turns k x put) p ≡ at (turns k z put) p)
          → at (set (turns k x put) (get_or perm k 0) (at y k)) p ≡ at (set (turns k z put) (get_or perm k 0) (at y k)) p
      go true q before =
          let r = eqb-true p (get_or perm k 0) q in
          rw (
            r,
            get_or-set_same (turns k x put) (get_or perm k 0) (at y k) nan (omega (arith, put-long x k)),
            get_or-set_same (turns k z put) (get_or perm k 0) (at y k) nan (omega (arith, put-long z k)),
          )
      go false q before =
          let r = eqb-false p (get_or perm k 0) q in
          let u : j ≡ k → ⊥ = λ s. r (sym (ap (λ (i : ℕ). get_or perm i 0) (sym s) ∙ e)) in
          rw (
            get_or-set_other (turns k x put) (get_or perm k 0) p (at y k) nan r,
            get_or-set_other (turns k z put) (get_or perm k 0) p (at y k) nan r,
          ) (before (omega arith))

  put_all : (n : ℕ) → length x ≡ n → private.Onto n perm → turns n x put ≡ turns n z put
  put_all n e onto =
      ext_get_or nan (turns n x put) (turns n z put) (put-long x n ∙ same ∙ sym (put-long z n))
      (λ p h. let l : p < n = omega (arith, put-long x n) in let o = onto p l in put_hit n p o.0 o.1 o.2 (omega arith))

  pub unpermuted_any : (n : ℕ) → length x ≡ n → private.Onto n perm → starts.unpermuted x perm y n ≡ starts.unpermuted z perm y n
  unfolding starts.unpermuted put
  unpermuted_any n e onto = put_all n e onto

-- ---- back substitution: entry i is made of those after it

module _ (n : ℕ) (a b x z : List Float) (lx : length x ≡ n) (lz : length z ≡ n) where
  entry : List Float → ℕ → Float
  entry y i = private.known n n a b y i ⊘ at a (i * n + i)

  fill : ℕ → List Float → List Float
  fill t y = set y (n - suc t) (entry y (n - suc t))

  fill-long : (l : List Float) (d : ℕ) → length (turns d l fill) ≡ length l
  unfolding turns fill
  fill-long l zero = refl
  fill-long l (suc d) = rw length-set (fill-long l d)

  entry-same : (u v : List Float) (i : ℕ) → i < n → ((p : ℕ) → suc i ≤ p → p < n → at u p ≡ at v p) → entry u i ≡ entry v i
  unfolding entry private.known
  entry-same u v i h e =
      ap (λ (s : Float). s ⊘ at a (i * n + i))
      (gathered_ext (sub binary64) (at b i) _ (suc i) _ n h
      (λ t l w. ap (λ (s : Float). at a (i * n + t) ⊗ s) (e t l w)))

  fill-same : (d : ℕ) → d ≤ n → (p : ℕ) → n - d ≤ p → p < n → at (turns d x fill) p ≡ at (turns d z fill) p
  unfolding turns fill
  fill-same zero h p l u = absurd (omega arith)
  fill-same (suc d) h p l u =
      let before = fill-same d (omega arith) in
      let i = n - suc d in
      let e : entry (turns d x fill) i ≡ entry (turns d z fill) i =
      entry-same (turns d x fill) (turns d z fill) i (omega arith) (λ q m w. before q (omega arith) w) in
      ⊎_elim
      (λ (q : i ≡ p).
      rw (
        ← q,
        get_or-set_same (turns d x fill) i (entry (turns d x fill) i) nan (omega (arith, fill-long x d)),
        get_or-set_same (turns d z fill) i (entry (turns d z fill) i) nan (omega (arith, fill-long z d)),
      ) e)
      (λ (q : i < p).
      rw (
        get_or-set_other (turns d x fill) i p (entry (turns d x fill) i) nan (λ s. omega arith),
        get_or-set_other (turns d z fill) i p (entry (turns d z fill) i) nan (λ s. omega arith),
      ) (before p (omega arith) u))
      (eq-or-lt_of_le l)

  pub substituted_any : starts.substituted x n n a b 0 ≡ starts.substituted z n n a b 0
  unfolding starts.substituted downward fill entry
  substituted_any =
      let q : n - 0 ≡ n = omega arith in
      rw q
      (ext_get_or nan (turns n x fill) (turns n z fill) (fill-long x n ∙ lx ∙ sym lz ∙ sym (fill-long z n))
      (λ p h. fill-same n (omega arith) p (omega arith) (omega (arith, fill-long x n))))

-- ---- zeros to start from

pub zeros-substituted : (n rank : ℕ) (a b y z : List Float) → y ≡ starts.substituted z n rank a b 0 → z ≡ replicate n 0ᶠ
    → y ≡ least.substituted n rank a b 0
unfolding starts.substituted least.substituted private.known
zeros-substituted n rank a b y z e q = rw (e, q)

zeros-unpermuted : (n k : ℕ) (perm : List ℕ) (y x z : List Float) → x ≡ starts.unpermuted z perm y k
    → z ≡ replicate n 0ᶠ → x ≡ least.unpermuted n perm y k
unfolding starts.unpermuted least.unpermuted
zeros-unpermuted n k perm y x z e q = rw (e, q)

-- ---- the columns' order has every column

abbrev Fine : ℕ → List ℕ → Type 0
Fine n perm = (length perm ≡ n) × private.Onto n perm

tab-is : (n p : ℕ) → p < n → get_or (tab (λ (i : ℕ). i) n) p 0 ≡ p
unfolding tab turns
tab-is zero p h = absurd (omega arith)
tab-is (suc n) p h =
    let l : List ℕ = tab (λ (i : ℕ). i) n in
    let w : p ≤ n = omega arith in
    ⊎_elim (λ (q : p ≡ n). rw q (get_or_at l n [] 0 n (tab-length (λ (i : ℕ). i) n)))
    (λ (q : p < n). get_or-append l (n ∷ []) 0 p (omega (arith, tab-length (λ (i : ℕ). i) n)) ∙ tab-is n p q)
    (eq-or-lt_of_le w)

fine-start : (n : ℕ) → Fine n (tab (λ (i : ℕ). i) n)
fine-start n = (tab-length (λ (i : ℕ). i) n, λ p h. (p, h, tab-is n p h))

module _ (n j c : ℕ) (l : List ℕ) (j-in : j < n) (c-in : c < n) (fine : Fine n l) where
  swapped : List ℕ
  swapped = swap 0 l j c

  swapped-long : length swapped ≡ n
  unfolding swapped swap
  swapped-long = rw (length-set, length-set) fine.0

  at_c : get_or swapped c 0 ≡ get_or l j 0
  unfolding swapped swap
  at_c = get_or-set_same (set l j (get_or l c 0)) c (get_or l j 0) 0 (omega (arith, length-set l j (get_or l c 0), fine.0))

  at_j : (j ≡ c → ⊥) → get_or swapped j 0 ≡ get_or l c 0
  unfolding swapped swap
  at_j h = get_or-set_other (set l j (get_or l c 0)) c j (get_or l j 0) 0 h ∙ get_or-set_same l j (get_or l c 0) 0 (omega (arith, fine.0))

  at_other : (i : ℕ) → (i ≡ j → ⊥) → (i ≡ c → ⊥) → get_or swapped i 0 ≡ get_or l i 0
  unfolding swapped swap
  at_other i g h = get_or-set_other (set l j (get_or l c 0)) c i (get_or l j 0) 0 h ∙ get_or-set_other l j i (get_or l c 0) 0 g

  swapped_onto : private.Onto n swapped
  swapped_onto p h = let o = fine.1 p h in go o.0 o.1 o.2 (eqb o.0 j) refl (eqb o.0 c) refl
    where
      go : (i : ℕ) → i < n → get_or l i 0 ≡ p → (b : Bool) → eqb i j ≡ b → (d : Bool) → eqb i c ≡ d → (i : ℕ) × (i < n) × (get_or swapped i 0 ≡ p)
      go i s e true q d r = (c, c-in, at_c ∙ ap (λ (k : ℕ). get_or l k 0) (sym (eqb-true i j q)) ∙ e)
      go i s e false q true r =
          let w = eqb-true i c r in
          (j, j-in, at_j (λ k. eqb-false i j q (w ∙ sym k)) ∙ ap (λ (k : ℕ). get_or l k 0) (sym w) ∙ e)
      go i s e false q false r = (i, s, at_other i (eqb-false i j q) (eqb-false i c r) ∙ e)

  swapped_fine : Fine n (swap 0 l j c)
  unfolding swapped
  swapped_fine = (swapped-long, swapped_onto)

module _ (a : List Float) (m n j : ℕ) where
  better_in : (c : ℕ) (p : Pivot) → c < n → p.col < n → (private.better a m n j c p).col < n
  unfolding private.better private.picked
  better_in c p h k = go (lt p.norm (least.norm2 a n c j m))
    where
      go : (b : Bool) → (cond b (record { col = c; norm = least.norm2 a n c j m }) p).col < n
      go true = h
      go false = k

  pivot_in : j < n → (least.pivot a m n j).col < n
  unfolding least.pivot private.better private.picked between
  pivot_in h =
      turns_keep (λ t. private.better a m n j (suc j + t)) (record { col = j; norm = least.norm2 a n j j m })
      (λ t p. p.col < n) (n - suc j) h (λ i p l k. better_in (suc j + i) p (omega arith) k)

module _ (m n j : ℕ) (h : j < n) where
  brought_fine : (c : ℕ) (s : least.Factors) → c < n → Fine n s.perm → Fine n (least.brought m n j c s).perm
  unfolding least.brought private.swap_columns
  brought_fine c s k f = go (eqb c j)
    where
      go : (b : Bool) → Fine n (cond b s (least.factors (private.swap_columns n j c s.a m) s.b (swap 0 s.perm j c))).perm
      go true = f
      go false = swapped_fine n j c s.perm h k f

  reduce_fine : (r : least.Reduced) → Fine n (least.left r).perm → Fine n (least.left (least.reduce m n j r)).perm
  unfolding least.reduce least.eliminated
  reduce_fine (least.ended r s) f = f
  reduce_fine (least.going s) f = go (eq (least.pivot s.a m n j).norm 0ᶠ) (brought_fine (least.pivot s.a m n j).col s (pivot_in s.a m n j h) f)
    where
      go : (b : Bool) → Fine n (least.brought m n j (least.pivot s.a m n j).col s).perm
          → Fine n
          (least.left
          (cond b (least.ended j (least.brought m n j (least.pivot s.a m n j).col s)) (least.going (least.eliminated m n j (least.brought m n j (least.pivot s.a m n j).col s))))).perm
      go true g = g
      go false g = g

reduced_fine : (m n : ℕ) (a b : List Float) (k : ℕ) → k ≤ n → Fine n (least.left (least.reduced m n a b k)).perm
unfolding least.reduced
reduced_fine m n a b k h =
    turns_keep (least.reduce m n) (least.going (least.factors a b (tab (λ (i : ℕ). i) n))) (λ t r. Fine n (least.left r).perm)
    k (fine-start n) (λ j r l f. reduce_fine m n j (omega arith) r f)

pub onto-run : (m n : ℕ) (a b : List Float) (k c : ℕ) (s : least.Factors) → private.Stopped k (least.reduced m n a b k) c s
    → k ≤ n → length s.perm ≡ n → ∥ private.Onto (length s.perm) s.perm ∥₁
onto-run m n a b k c s e h l = rw l (∣ subst (λ (s : least.Factors). private.Onto n s.perm) (sym e.factors) (reduced_fine m n a b k h).1 ∣₁)

-- so the order's start does not show
pub order-run : (n : ℕ) (perm : List ℕ) (x z y : List Float) → x ≡ starts.unpermuted z perm y (length perm)
    → length perm ≡ n → length z ≡ n → ∥ private.Onto (length perm) perm ∥₁
    → x ≡ least.unpermuted (length perm) perm y (length perm)
order-run n perm x z y e lp lz each =
    ∥∥₁_elim each (hlevel props) λ all.
    let onto : private.Onto n perm = rw lp at all in
    let l : length (replicate n 0ᶠ) ≡ n = length-replicate n 0ᶠ in
    let g : x ≡ starts.unpermuted (replicate n 0ᶠ) perm y n =
    rw (← lp) (e ∙ rw lp (unpermuted_any perm y z (replicate n 0ᶠ) (lz ∙ sym l) n lz onto)) in
    rw lp (zeros-unpermuted n n perm y x (replicate n 0ᶠ) g refl)

-- ---- the solution at full rank, from any x and y

pub full-run : (n rank : ℕ) (a b : List Float) (perm : List ℕ) (x z y w : List Float) → rank ≡ n
    → x ≡ starts.unpermuted z perm y (length perm) → y ≡ starts.substituted w n rank a b 0 → length perm ≡ n → length z ≡ n
    → length w ≡ n → ∥ private.Onto (length perm) perm ∥₁ → 0 < n
    → least.solution rank a b x ≡ least.solved n (least.factors a b perm) rank
full-run n rank a b perm x z y w q ex ey lp lz lw onto h =
    let l : length (replicate n 0ᶠ) ≡ n = length-replicate n 0ᶠ in
    let e : y ≡ starts.substituted w n n a b 0 = rw q at ey in
    let fy = zeros-substituted n n a b y (replicate n 0ᶠ) (e ∙ substituted_any n a b w (replicate n 0ᶠ) lw l) refl in
    let k : n ≤ n = omega arith in
    rw q
    (solved-run n n a b perm x y y (replicate (n * n) 0ᶠ) a (order-run n perm x z y ex lp lz onto) lp
    (turned_none n n (replicate (n * n) 0ᶠ) y k) fy (cleared-none n n a (replicate (n * n) 0ᶠ) (n * n) refl refl k) h)
