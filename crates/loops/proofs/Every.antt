-- A rule that one computed test shows at every number below a limit, or of every element of a list.
use Prim.Native.Nat.{ℕ, zero, suc, ◌≤◌, ◌<◌}
use mathlib.Core.Path.{◌≡◌, refl, sym}
use mathlib.Core.Bool.{Bool, true, false, ◌&&◌, true≢false}
use mathlib.Core.List.{List}
use native.Mathlib.Omega.{arith}
use native.Mathlib.Numerals.{add-one}
use native.Mathlib.Nat.{not-suc-le-zero, le_of_suc-le-suc}
use lib.Arith.{lt_of_le-ne}
use lib.Dec.{eqb}
use lib.ListN.{length, get_or, take}
use lib.Seq.{take_all}
use borrow.Author.Tests.{eqb-true, eqb-false}
use Rattle.std.specs.List.{list_all}
use Rattle.std.proofs.lemmas.List.Folds.{list_all_more}
use Rattle.loops.specs.Loops.{every}

pub both_true : (a b : Bool) → a && b ≡ true → (a ≡ true) × (b ≡ true)
both_true true b e = (refl, e)
both_true false b e = (e, absurd (true≢false (sym e)))

pub every-at : (test : ℕ → Bool) (n : ℕ) → every test n ≡ true → (i : ℕ) → i < n → test i ≡ true
unfolding every
every-at test zero h i b = absurd (not-suc-le-zero b)
every-at test (suc n) h i b = go (every-at test n (both_true (every test n) (test n) h).0 i) (eqb i n) refl
  where
    go : (i < n → test i ≡ true) → (c : Bool) → eqb i n ≡ c → test i ≡ true
    go r true e = rw (eqb-true i n e) (both_true (every test n) (test n) h).1
    go r false e = r (lt_of_le-ne (le_of_suc-le-suc b) (eqb-false i n e))

-- ---- the same of a list: at each place, or element by element

module _ {A : Type 0} (test : A → Bool) (l : List A) (d : A) where
  every_taken : (k : ℕ) → k ≤ length l → every (λ (i : ℕ). test (get_or l i d)) k ≡ list_all test (take k l)
  unfolding every
  every_taken zero h = refl
  every_taken (suc k) h = rw (every_taken k (omega arith), ← list_all_more test l k d (omega arith), add-one k) refl

  pub every_all : every (λ (i : ℕ). test (get_or l i d)) (length l) ≡ list_all test l
  every_all = rw (every_taken (length l) (omega arith), take_all (length l) l (omega arith)) refl
