-- The two walks over the steps of a pull: the one that looks at the rules and the one that writes. What each knows after i steps, and after one more.
use Rattle.std.proofs.Common.{◌≡◌, ℕ, suc, ◌+◌, ◌-◌, ◌*◌, ◌≤◌, ◌<◌, Bool, true, false, cond, leb, None, Result, Ok, Err, List, [], length, get_or, map, take, drop, length-drop, add-one, arith, refl, sym, ◌∙◌}
use native.Mathlib.Nat.{zero-add}
use lib.Ieee.{Float}
use lib.Seq.{sets-eq, drop-drop, length-take-le}
use lib.ListN.{get_or-map}
use borrow.Author.Tests.{le-leb, leb-true, leb-false}
use Rattle.loops.specs.Loops.{tab, turns}
use Rattle.loops.proofs.Fill.{tab-length}
use Rattle.refusals.specs.declared.Refusal.{Refusal}
use Rattle.refusals.specs.Calls.{unless}
use Rattle.refusals.proofs.Calls.{taken, refused}
use Rattle.bend_file.specs.Little.{over}
use Rattle.bend_writer.specs.Private.{Laid, had, checked, Room}
use Rattle.bend_writer.specs.Steps.{Step, step_bytes, chained, file, ruled, step_refusal, steps_refusal}
use Rattle.bend_writer.specs.Write.{part, before, step_at, lent, pulled}
use Rattle.bend_writer.specs.declared.StepSize.{StepSize}
use Rattle.bend_writer.proofs.Laying.{then, whole_length}
use Rattle.bend_writer.proofs.Chained.{tab-suc, file_snoc, refusal-suc, length-suc, found, step_kept, front_length}
use Rattle.bend_writer.proofs.Rules.{rules-kept, had-all, had-none}

-- ---- the values of a step

module _ (values : List Float) (from count : ℕ) where
  pub part-whole : from + count ≤ length values → part values from count ≡ take count (drop from values)
  unfolding part
  part-whole h = rw (le-leb (from + count) (length values) h)

  pub part_length : from ≤ length values → length (part values from count) ≡ had count (length values - from)
  unfolding part
  part_length h = go (leb (from + count) (length values)) refl
    where
      go : (b : Bool) → leb (from + count) (length values) ≡ b → length (cond b (take count (drop from values)) []) ≡ had count (length values - from)
      go true e = let g = leb-true (from + count) (length values) e in whole_length values from count g ∙ sym (had-all count (length values - from) (omega arith))
      go false e = let g = leb-false (from + count) (length values) e in sym (had-none count (length values - from) (omega arith))

  -- a part that has a value is whole
  pub part-some : 0 < length (part values from count) → from + count ≤ length values
  unfolding part
  part-some h = go (leb (from + count) (length values)) refl h
    where
      go : (b : Bool) → leb (from + count) (length values) ≡ b → 0 < length (cond b (take count (drop from values)) []) → from + count ≤ length values
      go true e g = leb-true (from + count) (length values) e
      go false e g = absurd (omega arith)

pub before_again : (counts : List ℕ) (i : ℕ) → before counts (i + 1) ≡ before counts i + get_or counts i 0
unfolding before turns
before_again counts i = rw add-one

module _ (rows coords counts : List ℕ) (values : List Float) where
  abbrev at : ℕ → Step
  at = step_at rows coords counts values

  refusal_at : (i from : ℕ) → from ≡ before counts i → from ≤ length values → step_refusal (at i) ≡ ruled (get_or rows i 0) (get_or coords i 0) (had (get_or counts i 0) (length values - from))
  unfolding step_refusal step_at
  refusal_at i from e h = rw (← part_length values from (get_or counts i 0) h, e)

  -- a step that keeps its rules has its values
  whole-at : (i from : ℕ) → from ≡ before counts i → step_refusal (at i) ≡ None → from + get_or counts i 0 ≤ length values
  unfolding step_refusal step_at
  whole-at i from e h = rw e (part-some values (before counts i) (get_or counts i 0) (omega (arith, (rules-kept (get_or rows i 0) (get_or coords i 0) (length (part values (before counts i) (get_or counts i 0))) h).counted)))

  step-at : (i from count : ℕ) → from ≡ before counts i → count ≡ get_or counts i 0 → from + count ≤ length values
      → at i ≡ record { rows = get_or rows i 0; coords = get_or coords i 0; values = take count (drop from values) }
  unfolding step_at
  step-at i from count e g h = rw (← e, ← g, part-whole values from count h)

  length_at : (i from count : ℕ) → from ≡ before counts i → count ≡ get_or counts i 0 → from + count ≤ length values → length (at i).values ≡ count
  length_at i from count e g h = rw (step-at i from count e g h) (whole_length values from count h)

  pub lent_length : (steps : ℕ) → length (lent steps rows coords counts values) ≡ steps
  unfolding lent
  lent_length steps = tab-length at steps

  -- ---- looked at

  pub record Seen (i from : ℕ) : Type 0 where
    pub used : from ≡ before counts i
    pub inside : from ≤ length values
    pub kept : steps_refusal (tab at i) ≡ None
    pub bytes : length (file (tab at i)) ≡ 20 * i + 8 * from

  pub seen_start : Seen 0 0
  unfolding before turns tab steps_refusal file chained
  seen_start = record { used = refl; inside = omega arith; kept = refl; bytes = refl }

  -- count, n and c are what the step says of itself, and x what its test answered
  module _ (i from count n c : ℕ) (seen : Seen i from) (is-count : count ≡ get_or counts i 0) (is-n : n ≡ get_or rows i 0) (is_c : c ≡ get_or coords i 0) where
    refusal-is : ruled n c (had count (length values - from)) ≡ step_refusal (at i)
    refusal-is = rw (is-n, is_c, is-count) (sym (refusal_at i from seen.used seen.inside))

    pub seen-refused : (r : Refusal) (steps : ℕ) → i < steps → ◌≡◌ {A = Result (Unit {0}) Refusal} (Err r) (unless (ruled n c (had count (length values - from))) (tt {0})) → Err r ≡ checked (lent steps rows coords counts values)
    unfolding checked lent
    seen-refused r steps b e = rw (found at i steps r b seen.kept (sym refusal-is ∙ refused _ _ r e))

    module _ (x : Unit {0}) (good : ◌≡◌ {A = Result (Unit {0}) Refusal} (Ok x) (unless (ruled n c (had count (length values - from))) (tt {0}))) where
      none : step_refusal (at i) ≡ None
      none = sym refusal-is ∙ (taken _ _ x good).0

      pub seen-inside : from + count ≤ length values
      seen-inside = rw is-count (whole-at i from seen.used none)

      pub seen_again : Seen (i + 1) (from + count)
      seen_again =
          record {
            used = sym (before_again counts i ∙ rw (← seen.used, ← is-count));
            inside = seen-inside;
            kept = rw add-one (refusal-suc at i ∙ rw (seen.kept, none));
            bytes = rw add-one (length-suc at i ∙ omega (arith, seen.bytes, length_at i from count seen.used is-count seen-inside));
          }

  pub seen_done : (i from steps : ℕ) → Seen i from → i ≤ steps → steps ≤ i → Ok (20 * steps + 8 * from) ≡ checked (lent steps rows coords counts values)
  unfolding checked lent
  seen_done i from steps seen h k = let e : i ≡ steps = omega arith in rw (← e, seen.kept, seen.bytes)

  -- ---- written

  pub record Placed (out₀ : List ℕ) (i base from : ℕ) (out : List ℕ) : Type 0 where
    pub used : from ≡ before counts i
    pub place : base ≡ length (file (tab at i))
    pub laid : Laid out₀ 0 out (file (tab at i))

  pub placed-start : (out₀ : List ℕ) → Placed out₀ 0 0 0 out₀
  unfolding before turns tab file chained
  placed-start out₀ = record { used = refl; place = refl; laid = record { laid = refl } }

  module _ (out₀ : List ℕ) (steps i base from count : ℕ) (out : List ℕ) (room : Room (lent steps rows coords counts values) (length out₀)) (h : i < steps) (l : Placed out₀ i base from out)
      (is-count : count ≡ get_or counts i 0) where
    none-at : step_refusal (at i) ≡ None
    unfolding lent
    none-at = step_kept at i steps h room.kept

    pub placed-inside : from + count ≤ length values
    placed-inside = rw is-count (whole-at i from l.used none-at)

    next-length : length (file (tab at (suc i))) ≡ base + (20 + 8 * count)
    next-length = length-suc at i ∙ rw (← l.place, length_at i from count l.used is-count placed-inside)

    pub placed-room : base + (20 + 8 * count) ≤ length out₀
    unfolding lent
    placed-room = omega (arith, next-length, front_length at (suc i) steps h, room.fits)

    -- what writing the step asks
    pub placed-fits : length out ≡ length out₀ → (base + (20 + 8 * count) ≤ length out) × (from + count ≤ length values)
    placed-fits e = (omega (arith, placed-room, e), placed-inside)

    pub placed_again : (n c : ℕ) (after : List ℕ) → n ≡ get_or rows i 0 → c ≡ get_or coords i 0 → Laid out base after (step_bytes base (record { rows = n; coords = c; values = take count (drop from values) }))
        → Placed out₀ (i + 1) (base + (20 + 8 * count)) (from + count) after
    placed_again n c after is-n is_c e =
        record {
          used = sym (before_again counts i ∙ rw (← l.used, ← is-count));
          place = rw add-one (sym next-length);
          laid = rw (add-one, tab-suc at i, file_snoc (tab at i) (at i), step-at i from count l.used is-count placed-inside, ← is-n, ← is_c, ← l.place) (then l.laid e (omega (arith, l.place)));
        }

  pub placed_done : (out₀ : List ℕ) (steps i base from : ℕ) (out : List ℕ) → Room (lent steps rows coords counts values) (length out₀) → Placed out₀ i base from out → i ≤ steps → steps ≤ i
      → out ≡ over (file (lent steps rows coords counts values)) out₀
  unfolding lent
  placed_done out₀ steps i base from out room l h k =
      let e : i ≡ steps = omega arith in
      l.laid.laid ∙ rw (e, sets-eq (file (tab at steps)) out₀ 0 (omega (arith, room.fits)), zero-add)

-- ---- the same of the steps' sizes

abbrev pub zero_size : StepSize
zero_size = record { rows = 0; coords = 0; count = 0 }

module _ (l : List StepSize) (values : List Float) where
  abbrev pub SeenSizes : ℕ → ℕ → Type 0
  SeenSizes i from = Seen (map (λ (s : StepSize). s.rows) l) (map (λ (s : StepSize). s.coords) l) (map (λ (s : StepSize). s.count) l) values i from

  module _ (i from : ℕ) (seen : SeenSizes i from) where
    abbrev s : StepSize
    s = get_or l i zero_size

    has_rows : s.rows ≡ get_or (map (λ (t : StepSize). t.rows) l) i 0
    has_rows = sym (get_or-map (λ (t : StepSize). t.rows) l i zero_size)

    has_coords : s.coords ≡ get_or (map (λ (t : StepSize). t.coords) l) i 0
    has_coords = sym (get_or-map (λ (t : StepSize). t.coords) l i zero_size)

    has_count : s.count ≡ get_or (map (λ (t : StepSize). t.count) l) i 0
    has_count = sym (get_or-map (λ (t : StepSize). t.count) l i zero_size)

    pub size-refused : (r : Refusal) → i < length l → ◌≡◌ {A = Result (Unit {0}) Refusal} (Err r) (unless (ruled s.rows s.coords (had s.count (length values - from))) (tt {0})) → Err r ≡ checked (pulled l values)
    size-refused r b e = seen-refused _ _ _ values i from s.count s.rows s.coords seen has_count has_rows has_coords r (length l) b e

    module _ (x : Unit {0}) (good : ◌≡◌ {A = Result (Unit {0}) Refusal} (Ok x) (unless (ruled s.rows s.coords (had s.count (length values - from))) (tt {0}))) where
      pub size-inside : from + s.count ≤ length values
      size-inside = seen-inside _ _ _ values i from s.count s.rows s.coords seen has_count has_rows has_coords x good

      pub size_again : SeenSizes (i + 1) (from + s.count)
      size_again = seen_again _ _ _ values i from s.count s.rows s.coords seen has_count has_rows has_coords x good

  -- ---- written: `left` are the values of the steps from i on

  pub record PlacedSizes (out₀ : List ℕ) (i base : ℕ) (left : List Float) (out : List ℕ) : Type 0 where
    pub behind : left ≡ drop (before (map (λ (s : StepSize). s.count) l) i) values
    pub placed : Placed (map (λ (s : StepSize). s.rows) l) (map (λ (s : StepSize). s.coords) l) (map (λ (s : StepSize). s.count) l) values out₀ i base
        (before (map (λ (s : StepSize). s.count) l) i) out

  pub sizes_start : (out₀ : List ℕ) → PlacedSizes out₀ 0 0 values out₀
  unfolding before turns
  sizes_start out₀ = record { behind = refl; placed = placed-start _ _ _ values out₀ }

  module _ (out₀ : List ℕ) (i base : ℕ) (left : List Float) (out : List ℕ) (room : Room (pulled l values) (length out₀)) (h : i < length l) (p : PlacedSizes out₀ i base left out) where
    abbrev size : StepSize
    size = get_or l i zero_size

    abbrev from : ℕ
    from = before (map (λ (s : StepSize). s.count) l) i

    own_count : size.count ≡ get_or (map (λ (t : StepSize). t.count) l) i 0
    own_count = sym (get_or-map (λ (t : StepSize). t.count) l i zero_size)

    inside : from + size.count ≤ length values
    inside = placed-inside _ _ _ values out₀ (length l) i base from size.count out room h p.placed own_count

    pub size-own : size.count ≤ length left
    size-own = rw p.behind (omega (arith, inside, length-drop from values))

    pub size-fits : length out ≡ length out₀ → (size.count ≡ length (take size.count left)) × (base + (20 + 8 * size.count) ≤ length out)
    size-fits e = (
      sym (length-take-le size.count left size-own),
      (placed-fits _ _ _ values out₀ (length l) i base from size.count out room h p.placed own_count e).0,
    )

    pub sizes_again : (after : List ℕ) → Laid out base after (step_bytes base (record { rows = size.rows; coords = size.coords; values = take size.count left }))
        → PlacedSizes out₀ (i + 1) (base + (20 + 8 * size.count)) (drop size.count left) after
    sizes_again after e =
        let next : from + size.count ≡ before (map (λ (s : StepSize). s.count) l) (i + 1) = sym (before_again _ i ∙ rw (← own_count)) in
        record {
          behind = rw (p.behind, drop-drop size.count from values, next);
          placed = rw (← next)
              (placed_again _ _ _ values out₀ (length l) i base from size.count out room h p.placed own_count size.rows size.coords after
              (sym (get_or-map (λ (t : StepSize). t.rows) l i zero_size)) (sym (get_or-map (λ (t : StepSize). t.coords) l i zero_size)) (rw p.behind at e));
        }

  pub sizes_done : (out₀ : List ℕ) (i base : ℕ) (left : List Float) (out : List ℕ) → Room (pulled l values) (length out₀) → PlacedSizes out₀ i base left out → i ≤ length l → length l ≤ i
      → out ≡ over (file (pulled l values)) out₀
  sizes_done out₀ i base left out room p h k = placed_done _ _ _ values out₀ (length l) i base _ out room p.placed h k
