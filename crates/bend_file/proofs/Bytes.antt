-- A number from bytes, as the library reads it from a run of them.
use Rattle.std.proofs.Common.{◌≡◌, ℕ, suc, ◌+◌, ◌-◌, ◌<◌, ◌≤◌, List, [], ◌∷◌, length, take, drop, slice_index, eqb, arith, ◌∙◌, ap, refl, Bool, true, false, ◌&&◌}
use Rattle.std.proofs.lemmas.List.{get_or-take, get_or-drop}
use Rattle.std.proofs.lemmas.Bool.Decides.{nat_tests}
use Rattle.std.specs.Int.{w16, w32, w64, from_le_bytes}
use Rattle.bend_file.specs.Little.{byte, u16, u32, u64}
use Rattle.bend_file.specs.Trailer.{marked}
use Rattle.std.specs.List.{ends_with}
use lib.ListN.{length-drop}
use lib.Seq.{drop-cons, take_all}

module _ (f : List ℕ) (at : ℕ) where
  run : (n i k : ℕ) → i < n → at + i ≡ k → slice_index (take n (drop at f)) i ≡ byte f k
  run n i k h e = get_or-take n (drop at f) i 0 h ∙ get_or-drop at f i 0 ∙ ap (byte f) e

  pub number16 : from_le_bytes w16 (take 2 (drop at f)) ≡ u16 f at
  unfolding u16
  number16 = omega (arith, run 2 0 at (omega arith) (omega arith), run 2 1 (at + 1) (omega arith) (omega arith))

  pub number32 : from_le_bytes w32 (take 4 (drop at f)) ≡ u32 f at
  unfolding u32 u16
  number32 =
      omega (
        arith,
        run 4 0 at (omega arith) (omega arith),
        run 4 1 (at + 1) (omega arith) (omega arith),
        run 4 2 (at + 2) (omega arith) (omega arith),
        run 4 3 (at + 2 + 1) (omega arith) (omega arith),
      )

  pub number64 : from_le_bytes w64 (take 8 (drop at f)) ≡ u64 f at
  unfolding u64 u32 u16
  number64 =
      omega (
        arith,
        run 8 0 at (omega arith) (omega arith),
        run 8 1 (at + 1) (omega arith) (omega arith),
        run 8 2 (at + 2) (omega arith) (omega arith),
        run 8 3 (at + 2 + 1) (omega arith) (omega arith),
        run 8 4 (at + 4) (omega arith) (omega arith),
        run 8 5 (at + 4 + 1) (omega arith) (omega arith),
        run 8 6 (at + 4 + 2) (omega arith) (omega arith),
        run 8 7 (at + 4 + 2 + 1) (omega arith) (omega arith),
      )

-- ---- the mark, as the library compares it

flipped : (a b : ℕ) → eqb a b ≡ eqb b a
flipped a b = grind (arith, nat_tests)

same-order : (a b c d : Bool) → (a && (b && (c && (d && true)))) ≡ (a && b && c && d)
same-order true true true true = refl
same-order true true true false = refl
same-order true true false d = refl
same-order true false c d = refl
same-order false b c d = refl

four : (f : List ℕ) (k : ℕ) → k + 4 ≤ length f → take 4 (drop k f) ≡ byte f k ∷ byte f (k + 1) ∷ byte f (k + 2) ∷ byte f (k + 3) ∷ []
four f k h =
    let d0 : drop k f ≡ byte f k ∷ drop (suc k) f = drop-cons f k 0 (omega arith) in
    let d1 : drop (suc k) f ≡ byte f (suc k) ∷ drop (suc (suc k)) f = drop-cons f (suc k) 0 (omega arith) in
    let d2 : drop (suc (suc k)) f ≡ byte f (suc (suc k)) ∷ drop (suc (suc (suc k))) f = drop-cons f (suc (suc k)) 0 (omega arith) in
    let d3 : drop (suc (suc (suc k))) f ≡ byte f (suc (suc (suc k))) ∷ drop (suc (suc (suc (suc k)))) f =
    drop-cons f (suc (suc (suc k))) 0 (omega arith) in
    let e1 : suc k ≡ k + 1 = omega arith in
    let e2 : suc (suc k) ≡ k + 2 = omega arith in
    let e3 : suc (suc (suc k)) ≡ k + 3 = omega arith in
    rw (d0, d1, d2, d3, e3, e2, e1)

module _ (f : List ℕ) (end : ℕ) (h : 4 ≤ end) (within : end ≤ length f) where
  pub last-four : take 4 (drop (end - 4) f) ≡ byte f (end - 4) ∷ byte f (end - 3) ∷ byte f (end - 2) ∷ byte f (end - 1) ∷ []
  last-four =
      let e1 : end - 4 + 1 ≡ end - 3 = omega arith in
      let e2 : end - 4 + 2 ≡ end - 2 = omega arith in
      let e3 : end - 4 + 3 ≡ end - 1 = omega arith in
      four f (end - 4) (omega arith) ∙ rw (e1, e2, e3)

pub mark-at-end : (f : List ℕ) → 4 ≤ length f → ends_with eqb f (0x42 ∷ 0x45 ∷ 0x4E ∷ 0x44 ∷ []) ≡ marked f (length f)
unfolding marked
mark-at-end f h =
    let end = length f in
    let all : take 4 (drop (end - 4) f) ≡ drop (end - 4) f = take_all 4 (drop (end - 4) f) (omega (arith, length-drop (end - 4) f)) in
    rw (
      ← all,
      last-four f end h (omega arith),
      flipped 0x42 (byte f (end - 4)),
      flipped 0x45 (byte f (end - 3)),
      flipped 0x4E (byte f (end - 2)),
      flipped 0x44 (byte f (end - 1)),
    )
    (same-order (eqb (byte f (end - 4)) 0x42) (eqb (byte f (end - 3)) 0x45) (eqb (byte f (end - 2)) 0x4E) (eqb (byte f (end - 1)) 0x44))
