-- Lists that are the same at each place are the same.
use Prim.Native.Nat.{ℕ, ◌+◌, ◌-◌, ◌≤◌, ◌<◌}
use mathlib.Core.Path.{◌≡◌, refl, ◌∙◌}
use mathlib.Core.Bool.{Bool, true, false}
use mathlib.Core.List.{List}
use native.Mathlib.Omega.{arith}
use lib.Dec.{ltb}
use lib.ListN.{length, get_or, take, drop, replicate, length-replicate, replicate-append-replicate}
use lib.Seq.{take_at, ext_get_or, get_or-take, get_or-drop}
use borrow.Author.Tests.{ltb-true, ltb-false}

pub same_lists : {A : Type 0} (d : A) (a b : List A) (n : ℕ) → n ≡ length a → length a ≡ length b → ((j : ℕ) → j < n → get_or a j d ≡ get_or b j d) → a ≡ b
same_lists d a b n e l h = ext_get_or d a b l (λ i g. h i (rw e g))

pub same_more : {A : Type 0} (d : A) (a b : List A) (i : ℕ) → ((j : ℕ) → j < i → get_or a j d ≡ get_or b j d) → get_or a i d ≡ get_or b i d → (j : ℕ) → j < i + 1 → get_or a j d ≡ get_or b j d
same_more d a b i h e j g = go (ltb j i) refl
  where
    go : (c : Bool) → ltb j i ≡ c → get_or a j d ≡ get_or b j d
    go true f = h j (ltb-true j i f)
    go false f = let q : j ≡ i = omega (arith, g, ltb-false j i f) in rw q e

-- a place of a part
pub part_at : {A : Type 0} (d : A) (a n j : ℕ) (l : List A) → j < n → get_or (take n (drop a l)) j d ≡ get_or l (a + j) d
part_at d a n j l h = get_or-take n (drop a l) j d h ∙ get_or-drop a l j d

-- the front of a list of one value
pub take-replicate : {A : Type 0} (k n : ℕ) (a : A) → k ≤ n → take k (replicate n a) ≡ replicate k a
take-replicate k n a h =
    let e : n ≡ k + (n - k) = omega arith in
    rw (e, ← replicate-append-replicate k (n - k) a) (take_at (replicate k a) (replicate (n - k) a) k (length-replicate k a))
