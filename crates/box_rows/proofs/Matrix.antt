-- Rows of a matrix as parts of its list, and copies.
use Prim.Native.Nat.{ℕ, zero, suc, ◌+◌, ◌*◌, ◌-◌, ◌≤◌, ◌<◌}
use mathlib.Core.Path.{◌≡◌, refl, ◌∙◌}
use mathlib.Core.List.{List, ◌++◌, append_assoc}
use native.Mathlib.Omega.{arith}
use native.Mathlib.Numerals.{add-one}
use lib.ListN.{length, take, drop, get_or, set, length-drop}
use lib.Seq.{take-suc, get_or-drop, paste, paste-zero, paste-suc, drop-paste, take_all, drop-drop, take-append_seam, length-take-le, drop_at}
use lib.Ieee.{Float, nan}
use Rattle.loops.specs.Loops.{tab, turns}
use Rattle.loops.proofs.Fill.{tab-length, tab_done}
use Rattle.loops.proofs.Index.{row-end}
use Rattle.floats.specs.Ops.{at}
use Rattle.box_rows.specs.Rows.{row}
use Rattle.box_rows.specs.Private.{entry}

-- n values from place a on
part-tab : (w : List Float) (a n : ℕ) → a + n ≤ length w → take n (drop a w) ≡ tab (λ (j : ℕ). at w (a + j)) n
unfolding tab turns
part-tab w a zero h = refl
part-tab w a (suc n) h =
    take-suc (drop a w) n nan (omega (arith, length-drop a w))
    ∙ rw (get_or-drop a w n nan, part-tab w a n (omega arith))

-- a row of a square ends within it
pub row_fits : (w : List Float) (n i : ℕ) → length w ≡ n * n → i < n → i * n + n ≤ length w
row_fits w n i e h = omega (arith, row-end n n i h, e)

-- row i is the part of the list from place i·n on
pub row-part : (w : List Float) (n i : ℕ) → i * n + n ≤ length w → take n (drop (i * n) w) ≡ row w n i
unfolding row
row-part w n i h = part-tab w (i * n) n h

pub row-length : (w : List Float) (n i : ℕ) → length (row w n i) ≡ n
unfolding row
row-length w n i = tab-length (entry w n i) n

-- ---- a copy of a list into another, from place a on, as a loop makes it

module _ {A : Type 0} (s : List A) (a : ℕ) (d : List A) where
  pub copy_start : d ≡ paste d a s 0
  copy_start = paste-zero d a s

  pub copy_again : (z : A) (i : ℕ) (x x' : List A) → x ≡ paste d a s i → a + length s ≤ length d → i < length s → x' ≡ set x (a + i) (get_or s i z) → x' ≡ paste d a s (i + 1)
  copy_again z i x x' e h b f = rw (add-one i, f, e) (paste-suc d a s i z (omega arith) b)

  module _ (x : List A) (i : ℕ) (e : x ≡ paste d a s i) (h : a + length s ≤ length d) (b : i ≤ length s) (c : length s ≤ i) where
    ended : i ≡ length s
    ended = omega arith

    pub copy-part : take (length s) (drop a x) ≡ s
    copy-part =
        let q : length (take a d) ≡ a = length-take-le a d (omega arith) in
        rw (e, ended, take_all (length s) s (omega arith), append_assoc, drop_at (take a d) (s ++ drop (a + length s) d) a q) (take-append_seam s (drop (a + length s) d))

    pub copy-after : drop (a + length s) x ≡ drop (a + length s) d
    copy-after = rw (e, ended) (drop-paste d a s (length s) (omega arith) (omega arith))

-- what lies past a later place stays too
pub later : {A : Type 0} (a b : ℕ) (x y : List A) → a ≤ b → drop a x ≡ drop a y → drop b x ≡ drop b y
later a b x y h e = let q : b ≡ a + (b - a) = omega arith in rw (q, ← drop-drop (b - a) a x, ← drop-drop (b - a) a y, e)

-- a table that a loop has filled
pub tab-filled : {A : Type 0} (f : ℕ → A) (n m : ℕ) (d s : List A) → s ≡ tab f n ++ drop n d → length s ≡ length d → length d ≡ m → n ≤ m → m ≤ n → s ≡ tab f m
tab-filled f n m d s e k q g h = rw (← q) (tab_done f n d s e k (omega arith) (omega arith))
