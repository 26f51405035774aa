-- What the tests of a step, one after another, say of it; and a step that keeps its rules, both ways.
use Rattle.std.proofs.Common.{◌≡◌, ℕ, ◌+◌, ◌-◌, ◌*◌, ◌≤◌, ◌<◌, true, not, cond, leb, Option, Some, None, Ok, Err, List, length, arith, ◌∙◌, ap, sym}
use Rattle.std.specs.Option.{SomeIff, ok_or}
use borrow.Author.Tests.{le-leb, lt-leb, leb-true, eq-eqb, ne_eqb, eqb-true}
use Rattle.loops.proofs.Every.{both_true}
use Rattle.refusals.specs.declared.Refusal.{Refusal}
use Rattle.refusals.specs.declared.Refusal.TheVariants.{FileCount, Link}
use Rattle.refusals.specs.Calls.{unless}
use Rattle.refusals.proofs.Calls.{taken, rule-kept, both-kept}
use Rattle.bend_file.specs.Little.{u32}
use Rattle.bend_file.specs.Trailer.{start, count, trailer_refusal}
use Rattle.bend_file.specs.Chain.{span, link_at, link, inside, preceded, backward, reaching_from, link_refusal, step_refusal}
use Rattle.bend_file.specs.Private.{Kept, values, step}
use Rattle.bend_file.specs.declared.trailer.Values.{Values}
use Rattle.bend_file.proofs.Accepted.{trailer-kept, trailer-kept_back}

-- what a subtraction that may fail tells
pub subtracted : (o : Option ℕ) (a b x : ℕ) (r : Refusal) → SomeIff o (b ≤ a) (a - b) → Ok x ≡ ok_or o r → (b ≤ a) × (x ≡ a - b)
subtracted (Some y) a b x r h e = let q : x ≡ y = cc in (h.0, q ∙ h.1)
subtracted None a b x r h e = absurd (cc)

pub too-much : (o : Option ℕ) (a b : ℕ) (r q : Refusal) → SomeIff o (b ≤ a) (a - b) → Err q ≡ ok_or o r → (a < b) × (q ≡ r)
too-much (Some y) a b r q h e = absurd (cc)
too-much None a b r q h e = (omega (arith, h), (cc))

-- the step that ends at `end`, where it is inside and the reader found t by its trailer
module _ (f : List ℕ) (end : ℕ) (is-inside : inside end ≡ true) (t : Values) (read : Ok t ≡ unless (trailer_refusal f end) (values f end)) where
  fields : t ≡ values f end
  fields = (taken _ _ t read).1

  is_count : t.count ≡ count f end
  is_count = ap (λ (x : Values). x.count) fields

  by-link : step_refusal f end ≡ link_refusal f end
  unfolding step_refusal
  by-link = rw (is-inside, (taken _ _ t read).0)

  pub crowded : end < 20 + 8 * t.count → step_refusal f end ≡ Some Link
  unfolding link_refusal preceded
  crowded h = by-link ∙ rw (← is_count, lt-leb (20 + 8 * t.count) end h)

  -- a and l: where its link is, and what it is
  module _ (room : 20 + 8 * t.count ≤ end) (a l : ℕ) (is_a : a ≡ end - (20 + 8 * t.count)) (is-l : l ≡ u32 f a) where
    is-at : a ≡ link_at f end
    unfolding link_at
    is-at = rw (← is_count) is_a

    is-link : l ≡ link f end
    unfolding link
    is-link = is-l ∙ ap (u32 f) is-at

    preceding : preceded f end ≡ true
    unfolding preceded
    preceding = rw (← is_count, le-leb (20 + 8 * t.count) end room)

    pub above : a < l → step_refusal f end ≡ Some Link
    unfolding link_refusal backward
    above h = by-link ∙ rw (preceding, ← is-at, ← is-link, lt-leb l a h)

    module _ (back : l ≤ a) (x : ℕ) (is-x : x ≡ l + t.start + 8 * t.count + 16) where
      is-end : x ≡ link f end + start f end + 8 * count f end + 16
      is-end = is-x ∙ rw (is-link, is_count, ap (λ (v : Values). v.start) fields)

      by-length : step_refusal f end ≡ cond (not (reaching_from f end)) (Some FileCount) None
      unfolding link_refusal backward
      by-length = by-link ∙ rw (preceding, ← is-at, ← is-link, le-leb l a back)

      pub misplaced : (x ≡ end → ⊥) → step_refusal f end ≡ Some FileCount
      unfolding reaching_from
      misplaced h = by-length ∙ rw (ne_eqb _ end λ e. h (is-end ∙ e))

      pub right : x ≡ end → Ok (record { link = l; values = record t { start = l + t.start } }) ≡ unless (step_refusal f end) (step f end)
      unfolding reaching_from
      right e =
          let none : step_refusal f end ≡ None = by-length ∙ rw (eq-eqb _ end (sym is-end ∙ e)) in
          rw (none, is-link, fields)

-- ---- the rules as facts

module _ (f : List ℕ) (end : ℕ) where
  pub kept : step_refusal f end ≡ None → end ≤ length f → Kept f end
  unfolding step_refusal link_refusal preceded backward reaching_from
  kept e within =
      let p1 = rule-kept (inside end) _ _ e in
      let p2 = both-kept _ _ p1.1 in
      let t = trailer-kept f end p2.0 in
      let p5 = rule-kept (preceded f end) _ _ p2.1 in
      let p6 = rule-kept (backward f end) _ _ p5.1 in
      let p7 = rule-kept (reaching_from f end) _ _ p6.1 in
      let s = both_true (leb 16 end) (leb end 1048576) p1.0 in
      record {
        least = leb-true 16 end s.0;
        most = leb-true end 1048576 s.1;
        within = within;
        mark = t.0;
        fair = t.1;
        full = t.2;
        room = leb-true (span f end) end p5.0;
        back = leb-true (link f end) (link_at f end) p6.0;
        reach = eqb-true (link f end + start f end + 8 * count f end + 16) end p7.0;
      }

  pub kept_back : Kept f end → step_refusal f end ≡ None
  unfolding step_refusal link_refusal preceded backward reaching_from
  kept_back k =
      rw (
        le-leb 16 end k.least,
        le-leb end 1048576 k.most,
        trailer-kept_back f end k.mark k.fair k.full,
        le-leb (span f end) end k.room,
        le-leb (link f end) (link_at f end) k.back,
        eq-eqb (link f end + start f end + 8 * count f end + 16) end k.reach,
      )
