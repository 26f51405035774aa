-- A loop that fills a list from the front, over any type (borrow.Author.Fill has it over ℕ), in the form in which `search` applies it.
use mathlib.Core.Path.{◌≡◌, refl, ap, ◌∙◌}
use mathlib.Core.List.{List, [], ◌∷◌, ◌++◌, append-nil, append_assoc}
use Prim.Native.Nat.{ℕ, zero, suc, ◌+◌, ◌≤◌, ◌<◌}
use native.Mathlib.Nat.{not-suc-le-zero, le_of_suc-le-suc}
use native.Mathlib.Numerals.{add-one}
use native.Mathlib.Omega.{arith}
use lib.Arith.{lt_of_le-ne}
use lib.Dec.{eqb}
use lib.Seq.{drop-cons, set_at, get_or_at}
use mathlib.Core.Bool.{Bool, true, false}
use borrow.Author.Tests.{eqb-true, eqb-false}
use Rattle.loops.specs.Loops.{tab, turns}
use lib.ListN.{length, get_or, length-append, set, drop, replicate, drop_of_length-le, get_or-append}

module _ {A : Type 0} where
  fill_suc : (n : ℕ) (v : A) (d : List A) → n < length d → set (replicate n v ++ drop n d) n v ≡ replicate (suc n) v ++ drop (suc n) d
  fill_suc n v [] l = absurd (not-suc-le-zero l)
  fill_suc zero v (x ∷ d) l = refl
  fill_suc (suc n) v (x ∷ d) l = ap (λ (t : List A). v ∷ t) (fill_suc n v d (le_of_suc-le-suc l))

  pub fill_again : (n : ℕ) (v : A) (d s : List A) → s ≡ replicate n v ++ drop n d → length s ≡ length d → n < length s → set s n v ≡ replicate (n + 1) v ++ drop (n + 1) d
  fill_again n v d s e g l = rw (add-one, e) (fill_suc n v d (omega arith))

  pub fill_done : (n : ℕ) (v : A) (d s : List A) → s ≡ replicate n v ++ drop n d → length s ≡ length d → n ≤ length d → length s ≤ n → s ≡ replicate (length d) v
  fill_done n v d s e f g h = let q : n ≡ length d = omega arith in e ∙ rw (drop_of_length-le d {i = n} (omega arith), append-nil, q)

-- the same with f 0, f 1, .. for one value
module _ {A : Type 0} (f : ℕ → A) where
  pub tab-length : (n : ℕ) → length (tab f n) ≡ n
  unfolding tab turns
  tab-length zero = refl
  tab-length (suc n) = length-append (tab f n) (f n ∷ []) ∙ rw (tab-length n) (add-one n)

  pub tab-start : (d : List A) → d ≡ tab f 0 ++ drop 0 d
  unfolding tab turns
  tab-start d = refl

  pub tab_again : (n : ℕ) (d s : List A) → s ≡ tab f n ++ drop n d → length s ≡ length d → n < length s → set s n (f n) ≡ tab f (n + 1) ++ drop (n + 1) d
  unfolding tab turns
  tab_again n d s e g l =
      let h : n < length d = omega arith in
      let q : length (tab f n) ≡ n = tab-length n in
      rw (add-one, e, drop-cons d n (f n) h, set_at (tab f n) _ _ (f n) n q, append_assoc)

  pub tab_done : (n : ℕ) (d s : List A) → s ≡ tab f n ++ drop n d → length s ≡ length d → n ≤ length d → length s ≤ n → s ≡ tab f (length d)
  tab_done n d s e k g h = let q : n ≡ length d = omega arith in e ∙ rw (drop_of_length-le d {i = n} (omega arith), append-nil, q)

  -- place j of a table is its value at j
  pub tab-at : (n j : ℕ) (d : A) → j < n → get_or (tab f n) j d ≡ f j
  unfolding tab turns
  tab-at zero j d h = absurd (not-suc-le-zero h)
  tab-at (suc n) j d h = go (eqb j n) refl (λ c. tab-at n j d c)
    where
      go : (b : Bool) → eqb j n ≡ b → (j < n → get_or (tab f n) j d ≡ f j) → get_or (tab f n ++ (f n ∷ [])) j d ≡ f j
      go true e before = rw (eqb-true j n e) (get_or_at (tab f n) (f n) [] d n (tab-length n))
      go false e before =
          let c : j < n = lt_of_le-ne (le_of_suc-le-suc h) (eqb-false j n e) in
          get_or-append (tab f n) (f n ∷ []) d j (rw (tab-length n) c) ∙ before c
