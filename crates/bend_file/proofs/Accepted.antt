-- What the reader accepts is a bend file of the problem that it gives, and every bend file is accepted so.
use Rattle.std.proofs.Common.{◌≡◌, ℕ, ◌+◌, ◌-◌, ◌*◌, ◌≤◌, true, leb, eqb, None, Ok, Err, List, [], ◌∷◌, length, take, drop, arith, refl, sym, ◌∙◌, ap}
use native.Mathlib.Nat.{mul-le-mul}
use borrow.Author.Tests.{le-leb, leb-true, eq-eqb, eqb-true}
use Rattle.loops.proofs.Every.{both_true}
use Rattle.refusals.specs.declared.Refusal.{Refusal}
use Rattle.refusals.specs.Calls.{unless}
use Rattle.refusals.proofs.Calls.{taken, refused, rule-kept, both-kept}
use Rattle.bend_file.specs.Little.{byte}
use Rattle.bend_file.specs.Trailer.{start, rows, coords, count, sized, marked, small, Small, wanted, counted, reaching, trailer_refusal, refusal}
use Rattle.bend_file.specs.Read.{Problem, problem, answer, shape, Lent, with_problem, Reads}
use Rattle.bend_file.specs.Format.{BendFile}
use Rattle.bend_file.specs.Private as private
use Rattle.bend_file.specs.Private.{values, Inside}
use Rattle.bend_file.specs.declared.Shape.{Shape}
use Rattle.bend_file.specs.declared.trailer.Values.{Values}
use Rattle.bend_file.proofs.Rules.{small_is}
use Rattle.bend_file.proofs.Bytes.{last-four}

-- ---- each rule as a fact

module _ (f : List ℕ) (end : ℕ) where
  sizes : sized end ≡ true → (16 ≤ end) × (end ≤ 65536)
  sizes e = let s = both_true (leb 16 end) (leb end 65536) e in (leb-true 16 end s.0, leb-true end 65536 s.1)

  sizes-back : 16 ≤ end → end ≤ 65536 → sized end ≡ true
  sizes-back h k = rw (le-leb 16 end h, le-leb end 65536 k)

  pub counts : counted f end ≡ true → count f end ≡ wanted (rows f end) (coords f end)
  unfolding counted
  counts e = eqb-true (count f end) (wanted (rows f end) (coords f end)) e

  pub counts-back : count f end ≡ wanted (rows f end) (coords f end) → counted f end ≡ true
  unfolding counted
  counts-back h = eq-eqb (count f end) (wanted (rows f end) (coords f end)) h

  reaches : reaching f end ≡ true → start f end + 8 * count f end + 16 ≡ end
  unfolding reaching
  reaches e = eqb-true (start f end + 8 * count f end + 16) end e

  reaches-back : start f end + 8 * count f end + 16 ≡ end → reaching f end ≡ true
  unfolding reaching
  reaches-back h = eq-eqb (start f end + 8 * count f end + 16) end h

pub small-back : (n c : ℕ) → n ≤ 32 → c * n ≤ 2048 → small n c ≡ true
small-back n c h k = rw (le-leb n 32 h, le-leb (c * n) 2048 k)

-- the rules kept
pub record Kept (f : List ℕ) : Type 0 where
  pub least : 16 ≤ length f
  pub most : length f ≤ 65536
  pub mark : marked f (length f) ≡ true
  pub fair : Small (rows f (length f)) (coords f (length f))
  pub full : count f (length f) ≡ wanted (rows f (length f)) (coords f (length f))
  pub reach : start f (length f) + 8 * count f (length f) + 16 ≡ length f

module _ (f : List ℕ) (end : ℕ) where
  -- a trailer that keeps its rules, both ways
  pub trailer-kept : trailer_refusal f end ≡ None → (marked f end ≡ true) × Small (rows f end) (coords f end) × (count f end ≡ wanted (rows f end) (coords f end))
  unfolding trailer_refusal
  trailer-kept e =
      let p2 = rule-kept (marked f end) _ _ e in
      let p3 = rule-kept (small (rows f end) (coords f end)) _ _ p2.1 in
      let p4 = rule-kept (counted f end) _ _ p3.1 in
      (p2.0, small_is (rows f end) (coords f end) p3.0, counts f end p4.0)

  pub trailer-kept_back : marked f end ≡ true → Small (rows f end) (coords f end) → count f end ≡ wanted (rows f end) (coords f end) → trailer_refusal f end ≡ None
  unfolding trailer_refusal
  trailer-kept_back m h k = rw (m, small-back (rows f end) (coords f end) h.few h.moving, counts-back f end k)

module _ (f : List ℕ) where
  abbrev end : ℕ
  end = length f

  pub kept : refusal f ≡ None → Kept f
  unfolding refusal
  kept e =
      let p1 = rule-kept (sized end) _ _ e in
      let p2 = both-kept _ _ p1.1 in
      let p4 = trailer-kept f end p2.0 in
      let p5 = rule-kept (reaching f end) _ _ p2.1 in
      let s = sizes f end p1.0 in
      record { least = s.0; most = s.1; mark = p4.0; fair = p4.1; full = p4.2; reach = reaches f end p5.0 }

  pub kept_back : Kept f → refusal f ≡ None
  unfolding refusal
  kept_back k =
      rw (
        sizes-back f end k.least k.most,
        trailer-kept_back f end k.mark k.fair k.full,
        reaches-back f end k.reach,
      )

  -- ---- what the reader found: the values lie in the file

  pub inside : (v : Values) → Ok v ≡ unless (refusal f) (values f end) → Inside f v
  inside v h =
      let t = taken _ _ v h in
      let k = kept t.0 in
      rw t.1 (record { inside = omega (arith, k.full, k.reach); small = k.fair })

  -- the call's answer and its buffers
  module _ (b : Lent) where
    pub reads-refused : (r : Refusal) → Err r ≡ unless (refusal f) (values f end) → Reads f (Err r) b b
    unfolding answer
    reads-refused r h = let o = refused _ _ r h in record { result = rw o; buffers = rw o }

    pub reads_accepted : (v : Values) (s : Shape) (after : Lent) → Ok v ≡ unless (refusal f) (values f end) → s ≡ shape (private.problem f v)
        → after ≡ with_problem (private.problem f v) b → Reads f (Ok s) b after
    unfolding answer
    reads_accepted v s after h g e =
        let t = taken _ _ v h in
        record { result = rw (t.0, g, t.1); buffers = rw t.0 (e ∙ ap (λ (u : Values). with_problem (private.problem f u) b) t.1) }

-- ---- the mark

abbrev mark : List ℕ
mark = 0x42 ∷ 0x45 ∷ 0x4E ∷ 0x44 ∷ []

module _ (f : List ℕ) (end : ℕ) (h : 4 ≤ end) (within : end ≤ length f) where
  pub mark-is : marked f end ≡ true → take 4 (drop (end - 4) f) ≡ mark
  unfolding marked
  mark-is e =
      let s3 = both_true _ (eqb (byte f (end - 1)) 0x44) e in
      let s2 = both_true _ (eqb (byte f (end - 2)) 0x4E) s3.0 in
      let s1 = both_true (eqb (byte f (end - 4)) 0x42) (eqb (byte f (end - 3)) 0x45) s2.0 in
      last-four f end h within
      ∙ rw (
        eqb-true (byte f (end - 4)) 0x42 s1.0,
        eqb-true (byte f (end - 3)) 0x45 s1.1,
        eqb-true (byte f (end - 2)) 0x4E s2.1,
        eqb-true (byte f (end - 1)) 0x44 s3.1,
      )

  pub mark-back : take 4 (drop (end - 4) f) ≡ mark → marked f end ≡ true
  unfolding marked
  mark-back e =
      let g : byte f (end - 4) ∷ byte f (end - 3) ∷ byte f (end - 2) ∷ byte f (end - 1) ∷ [] ≡ mark = sym (last-four f end h within) ∙ e in
      let b0 : byte f (end - 4) ≡ 0x42 = cc in
      let b1 : byte f (end - 3) ≡ 0x45 = cc in
      let b2 : byte f (end - 2) ≡ 0x4E = cc in
      let b3 : byte f (end - 1) ≡ 0x44 = cc in
      rw (b0, b1, b2, b3)

-- ---- both ways

module _ (f : List ℕ) where
  abbrev read_off : Problem
  read_off = problem f (start f (length f)) (rows f (length f)) (coords f (length f))

  kept-file : Kept f → BendFile f (start f (length f)) (count f (length f)) read_off
  unfolding problem start rows coords count
  kept-file k =
      record {
        least = k.least;
        most = k.most;
        at_start = refl;
        at_rows = refl;
        at_coords = refl;
        at_count = refl;
        mark = mark-is f (length f) (omega (arith, k.least)) (omega arith) k.mark;
        few_rows = k.fair.few;
        few_moving = k.fair.moving;
        counted = k.full;
        reaching = k.reach;
        values = refl;
      }

  pub accepted_is_bend-file : (p : Problem) → answer f ≡ Ok p → BendFile f (start f (length f)) (count f (length f)) p
  unfolding answer
  accepted_is_bend-file p h =
      let t = taken _ _ p (sym h) in
      rw t.1 (kept-file (kept f t.0))

  pub bend-file-is-accepted : (s k : ℕ) (p : Problem) → BendFile f s k p → answer f ≡ Ok p
  unfolding answer start rows coords count
  bend-file-is-accepted s k p b =
      let q : Kept f = record {
        least = b.least;
        most = b.most;
        mark = mark-back f (length f) (omega (arith, b.least)) (omega arith) b.mark;
        fair =
            rw (b.at_rows, b.at_coords)
            (record { few = b.few_rows; square = mul-le-mul b.few_rows b.few_rows; moving = b.few_moving });
        full = rw (b.at_rows, b.at_coords, b.at_count) b.counted;
        reach = rw (b.at_start, b.at_count) b.reaching;
      } in
      rw (kept_back f q, b.at_start, b.at_rows, b.at_coords, ← b.values)
