-- What the reader's tests, one after another, say of the file.
use Rattle.std.proofs.Common.{◌≡◌, ℕ, ◌+◌, ◌-◌, ◌*◌, ◌≤◌, Bool, true, false, cond, ◌&&◌, leb, Some, None, Ok, Err, List, take, drop, refl, sym, ◌∙◌, ap}
use Rattle.std.specs.Int.{w16, w32, from_le_bytes}
use Rattle.std.specs.Option.{ok_or}
use native.Mathlib.Nat.{mul-le-mul}
use borrow.Author.Tests.{leb-true, eq-eqb, ne_eqb}
use Rattle.loops.proofs.Every.{both_true}
use Rattle.refusals.specs.declared.Refusal.{Refusal}
use Rattle.refusals.specs.declared.Refusal.TheVariants.{FileMark, FileLimits, FileCount}
use Rattle.refusals.specs.Calls.{unless}
use Rattle.bend_file.specs.Trailer.{start, rows, coords, count, marked, small, Small, wanted, value_count, counted, trailer_refusal}
use Rattle.bend_file.specs.Private.{values_from, values}
use Rattle.bend_file.specs.declared.trailer.Values.{Values}
use Rattle.bend_file.proofs.Bytes.{number16, number32}

pub small_is : (n c : ℕ) → small n c ≡ true → Small n c
small_is n c e =
    let s = both_true (leb n 32) (leb (c * n) 2048) e in
    let h = leb-true n 32 s.0 in
    record { few = h; square = mul-le-mul h h; moving = leb-true (c * n) 2048 s.1 }

pub not_long : (bytes most : ℕ) → (leb 16 bytes && leb bytes most) ≡ true → bytes ≤ most
not_long bytes most e = leb-true bytes most (both_true (leb 16 bytes) (leb bytes most) e).1

-- what the count that a trailer should have tells of its rows and coordinates
module _ (n c : ℕ) (r : Refusal) where
  pub has_count : (k : ℕ) → Ok k ≡ ok_or (value_count n c) r → (small n c ≡ true) × (k ≡ wanted n c)
  has_count k e = go (small n c) refl e
    where
      go : (b : Bool) → small n c ≡ b → Ok k ≡ ok_or (cond b (Some (wanted n c)) None) r → (small n c ≡ true) × (k ≡ wanted n c)
      go true i q = (i, (cc))
      go false i q = absurd (cc)

  pub no-count : (q : Refusal) → Err q ≡ ok_or (value_count n c) r → (small n c ≡ false) × (q ≡ r)
  no-count q e = go (small n c) refl e
    where
      go : (b : Bool) → small n c ≡ b → Err q ≡ ok_or (cond b (Some (wanted n c)) None) r → (small n c ≡ false) × (q ≡ r)
      go true i h = absurd (cc)
      go false i h = (i, (cc))

-- ---- the trailer, field after field

module _ (f : List ℕ) (end : ℕ) where
  pub rows-read : from_le_bytes w16 (take 2 (drop (end - 12) f)) ≡ rows f end
  unfolding rows
  rows-read = number16 f (end - 12)

  pub coords-read : from_le_bytes w16 (take 2 (drop (end - 10) f)) ≡ coords f end
  unfolding coords
  coords-read = number16 f (end - 10)

  pub count-read : from_le_bytes w32 (take 4 (drop (end - 8) f)) ≡ count f end
  unfolding count
  count-read = number32 f (end - 8)

  pub start-read : from_le_bytes w32 (take 4 (drop (end - 16) f)) ≡ start f end
  unfolding start
  start-read = number32 f (end - 16)

  pub unmarked : marked f end ≡ false → trailer_refusal f end ≡ Some FileMark
  unfolding trailer_refusal
  unmarked h = rw h

  -- what the reader found: the mark, n rows, c coordinates
  module _ (has_mark : marked f end ≡ true) (n c : ℕ) (is-n : n ≡ rows f end) (is_c : c ≡ coords f end) where
    pub too_large : (r : Refusal) → Err r ≡ ok_or (value_count n c) FileLimits → trailer_refusal f end ≡ Some r
    unfolding trailer_refusal
    too_large r e = let q = no-count n c FileLimits r e in rw (has_mark, ← is-n, ← is_c, q.0, q.1)

    -- the count k that the trailer should have, and the count x that it has
    module _ (k x : ℕ) (has : Ok k ≡ ok_or (value_count n c) FileLimits) (is-x : x ≡ count f end) where
      pub miscounted : (x ≡ k → ⊥) → trailer_refusal f end ≡ Some FileCount
      unfolding trailer_refusal counted
      miscounted h =
          let q = has_count n c FileLimits k has in
          rw (has_mark, ← is-n, ← is_c, ← is-x, q.0, ne_eqb x (wanted n c) λ e. h (e ∙ sym q.1))

      pub read_whole : (s : ℕ) → x ≡ k → s ≡ start f end
          → Ok (record { start = s; rows = n; coords = c; count = x }) ≡ unless (trailer_refusal f end) (values f end)
      unfolding trailer_refusal counted
      read_whole s e is-s =
          let q = has_count n c FileLimits k has in
          rw (has_mark, ← is-n, ← is_c, ← is-x, ← is-s, q.0, eq-eqb x (wanted n c) (e ∙ q.1))

-- where a trailer behind the values would end
pub end_of : (f : List ℕ) (end s x : ℕ) (v : Values) → v ≡ values_from f s end → x ≡ v.start + 8 * v.count + 16 → x ≡ s + 8 * count f end + 16
end_of f end s x v e h = h ∙ ap (λ (u : Values). u.start + 8 * u.count + 16) e
