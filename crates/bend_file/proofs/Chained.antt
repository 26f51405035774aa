-- What the reader of chains accepts is a chained bend file of the steps that it gives, and every chained bend file is
-- accepted so.
use Rattle.std.proofs.Common.{◌≡◌, ℕ, zero, suc, ◌+◌, ◌-◌, ◌*◌, ◌≤◌, ◌<◌, Bool, true, false, cond, eqb, Option, Some, None, Result, Ok, Err, List, [], ◌∷◌, ◌++◌, length, get_or, map, append_assoc, length-append, arith, refl, sym, ◌∙◌, ap}
use mathlib.Core.List.{map-append}
use native.Mathlib.Nat.{mul-le-mul}
use borrow.Author.Tests.{eqb-true}
use Rattle.loops.proofs.Turns.{turns_keep}
use Rattle.refusals.specs.declared.Refusal.{Refusal}
use Rattle.bend_file.specs.Little.{u32}
use Rattle.bend_file.specs.Trailer.{start, rows, coords, count}
use Rattle.bend_file.specs.Read.{Problem, problem}
use Rattle.bend_file.specs.Chain as chain
use Rattle.bend_file.specs.Chain.{Walk, at, ended}
use Rattle.bend_file.specs.Format.{StepFile, Steps, first, after, ChainFile}
use Rattle.bend_file.specs.Private.{Kept}
use Rattle.bend_file.proofs.Accepted.{mark-is, mark-back}
use Rattle.bend_file.proofs.StepRules.{kept, kept_back}
use Rattle.bend_file.proofs.Walks.{on-first, on-after, verdict, begun}

-- ---- one step, both ways

module _ (f : List ℕ) (end : ℕ) where
  link-place : end - 16 - 8 * count f end - 4 ≡ chain.link_at f end
  unfolding chain.link_at
  link-place = omega arith

  pub step-is-file : Kept f end → StepFile f end (chain.link f end) (start f end) (count f end) (chain.step_problem f end)
  unfolding chain.step_problem chain.link problem start rows coords count
  step-is-file k =
      record {
        least = k.least;
        at_start = refl;
        at_rows = refl;
        at_coords = refl;
        at_count = refl;
        mark = mark-is f end (omega (arith, k.least)) k.within k.mark;
        few_rows = k.fair.few;
        few_moving = k.fair.moving;
        counted = k.full;
        preceded = k.room;
        at_link = ap (u32 f) link-place;
        backward = rw link-place k.back;
        reaching = omega (arith, k.reach);
        values = refl;
      }

  module _ (l s n : ℕ) (p : Problem) (b : StepFile f end l s n p) where
    same_count : count f end ≡ n
    unfolding count
    same_count = b.at_count

    same_start : start f end ≡ s
    unfolding start
    same_start = b.at_start

    own-place : chain.link_at f end ≡ end - 16 - 8 * n - 4
    own-place = rw (← same_count) (sym link-place)

    pub same-link : chain.link f end ≡ l
    unfolding chain.link
    same-link = rw own-place b.at_link

    pub same-problem : chain.step_problem f end ≡ p
    unfolding chain.step_problem rows coords
    same-problem = rw (same-link, same_start, b.at_rows, b.at_coords, ← b.values)

    pub file-is-step : end ≤ length f → end ≤ 1048576 → Kept f end
    unfolding rows coords
    file-is-step within most =
        record {
          least = b.least;
          most = most;
          within = within;
          mark = mark-back f end (omega (arith, b.least)) within b.mark;
          fair =
              rw (b.at_rows, b.at_coords)
              (record { few = b.few_rows; square = mul-le-mul b.few_rows b.few_rows; moving = b.few_moving });
          full = rw (b.at_rows, b.at_coords, same_count) b.counted;
          room = rw same_count b.preceded;
          back = rw (same-link, own-place) b.backward;
          reach = rw (same-link, same_start, same_count) (omega (arith, b.reaching, b.backward, b.preceded));
        }

-- ---- what is accepted is a chained bend file

module _ (f : List ℕ) where
  -- the walk so far: whatever steps are found from here on, those passed stand before them
  record Going (i end : ℕ) (s : List ℕ) : Type 0 where
    few : length s ≤ i
    within : end ≤ length f
    -- the first step tested the whole file's length
    newest : (length s ≡ 0 → end ≡ length f)
    most : (0 < length s → length f ≤ 1048576)
    before : (t : List ℕ) (l : List Problem) → Steps f end t l → Steps f (length f) (s ++ t) (map (chain.step_problem f) s ++ l)

  abbrev Sound : ℕ → Walk → Type 0
  Sound i (at end s) = Going i end s
  Sound i (ended (Err r)) = Unit {0}
  Sound i (ended (Ok s)) = (length s ≤ i) × (length f ≤ 1048576) × Steps f (length f) s (map (chain.step_problem f) s)

  sound-start : Sound 0 (at (length f) [])
  sound-start =
      record {
        few = omega arith;
        within = omega arith;
        newest = λ h. refl;
        most = λ h. absurd (omega arith);
        before = λ t l h. h;
      }

  module _ (i end : ℕ) (s : List ℕ) (g : Going i end s) (e : chain.step_refusal f end ≡ None) where
    abbrev p : Problem
    p = chain.step_problem f end

    here : Kept f end
    here = kept f end e g.within

    whole : length f ≤ 1048576
    whole = go (length s) refl
      where
        go : (n : ℕ) → length s ≡ n → length f ≤ 1048576
        go zero q = omega (arith, g.newest q, here.most)
        go (suc n) q = g.most (omega arith)

    one_longer : length (s ++ (end ∷ [])) ≡ length s + 1
    one_longer = length-append s (end ∷ [])

    link-within : chain.link f end ≤ length f
    unfolding chain.link_at
    link-within = omega (arith, here.back, here.within)

    follows : Sound (suc i) (chain.follow (chain.link f end) (s ++ (end ∷ [])))
    unfolding chain.follow
    follows = go (eqb (chain.link f end) 0) refl
      where
        go : (b : Bool) → eqb (chain.link f end) 0 ≡ b
            → Sound (suc i) (cond b (ended (Ok (s ++ (end ∷ [])))) (at (chain.link f end) (s ++ (end ∷ []))))
        go true q =
            let z = eqb-true (chain.link f end) 0 q in
            let b : StepFile f end 0 (start f end) (count f end) p = rw (← z) (step-is-file f end here) in (
              omega (arith, one_longer, g.few),
              whole,
              rw (map-append (chain.step_problem f) s (end ∷ [])) (g.before (end ∷ []) (p ∷ []) (first b)),
            )
        go false q =
            record {
              few = omega (arith, one_longer, g.few);
              within = link-within;
              newest = λ h. absurd (omega (arith, one_longer));
              most = λ h. whole;
              before =
                  λ t l h. rw (map-append (chain.step_problem f) s (end ∷ []), append_assoc, append_assoc)
                  (g.before (end ∷ t) (p ∷ l) (after (step-is-file f end here) h));
            }

  sound-step : (i end : ℕ) (s : List ℕ) → Going i end s → Sound (suc i) (chain.step f end s)
  unfolding chain.step chain.passed
  sound-step i end s g = go (chain.step_refusal f end) refl
    where
      go : (o : Option Refusal) → chain.step_refusal f end ≡ o
          → Sound (suc i) (chain.passed o (chain.follow (chain.link f end) (s ++ (end ∷ []))))
      go None q = follows i end s g q
      go (Some r) q = tt

  sound-turn : (i : ℕ) (x : Walk) → i < 40 → Sound i x → Sound (suc i) (chain.turn f i x)
  unfolding chain.turn
  sound-turn i (at end s) b h = sound-step i end s h
  sound-turn i (ended (Err r)) b h = h
  sound-turn i (ended (Ok s)) b h = (omega (arith, h.0), h.1, h.2)

  abbrev Settled : Result (List ℕ) Refusal → Type 0
  Settled (Err r) = Unit {0}
  Settled (Ok s) = ChainFile f s (map (chain.step_problem f) s)

  settled : Settled (chain.ends f)
  unfolding chain.ends chain.walked chain.settled
  settled = go (chain.walked f 40) (turns_keep (chain.turn f) (at (length f) []) Sound 40 sound-start sound-turn)
    where
      go : (x : Walk) → Sound 40 x → Settled (chain.settled x)
      go (at end t) h = tt
      go (ended (Err r)) h = h
      go (ended (Ok t)) h = record { most = h.1; few = h.0; steps = h.2 }

  pub accepted_is_chain-file : (s : List ℕ) → chain.ends f ≡ Ok s → ChainFile f s (map (chain.step_problem f) s)
  accepted_is_chain-file s e = rw e at settled

  -- ---- every chained bend file is accepted

  -- a step that another follows does not end at 0
  nonzero : {end : ℕ} {t : List ℕ} {l : List Problem} → Steps f end t l → end ≡ 0 → ⊥
  nonzero (first b) e = omega (arith, b.least)
  nonzero (after b more) e = omega (arith, b.least)

  link-below : {end l s n : ℕ} {p : Problem} → StepFile f end l s n p → l ≤ end
  link-below b = omega (arith, b.backward)

  module _ (most : length f ≤ 1048576) where
    reaches : {end : ℕ} {t : List ℕ} {l : List Problem} → Steps f end t l → (k : ℕ) (s : List ℕ) → end ≤ length f → chain.walked f k ≡ at end s
        → chain.walked f (k + length t) ≡ ended (Ok (s ++ t))
    reaches (first {end} {start} {count} {p} b) k s h w =
        let e : k + 1 ≡ suc k = omega arith in
        let q = kept_back f end (file-is-step f end 0 start count p b h (omega arith)) in
        rw e (on-first f k end s w q (same-link f end 0 start count p b))
    reaches (after {end} {link} {start} {count} {p} {ends} {l} b more) k s h w =
        let e : k + suc (length ends) ≡ suc k + length ends = omega arith in
        let q = kept_back f end (file-is-step f end link start count p b h (omega arith)) in
        let same = same-link f end link start count p b in
        let next = on-after f k end s w q λ z. nonzero more (sym same ∙ z) in
        rw (e, ← append_assoc s (end ∷ []) ends)
        (reaches more (suc k) (s ++ (end ∷ [])) (omega (arith, link-below b)) (next ∙ rw same))

  their-problems : {end : ℕ} {t : List ℕ} {l : List Problem} → Steps f end t l → map (chain.step_problem f) t ≡ l
  their-problems (first {end} {start} {count} {p} b) = rw (same-problem f end 0 start count p b)
  their-problems (after {end} {link} {start} {count} {p} {ends} {l} b more) = rw (same-problem f end link start count p b, their-problems more)

  module _ (s : List ℕ) (l : List Problem) (c : ChainFile f s l) where
    pub chain-file-is-accepted : chain.ends f ≡ Ok s
    chain-file-is-accepted =
        verdict f (0 + length s) (Ok s) (omega (arith, c.few))
        (reaches c.most c.steps 0 [] (omega arith) (begun f))

    pub chain-file-is-read : chain.pull f ≡ Ok l
    unfolding chain.pull
    chain-file-is-read = rw (chain-file-is-accepted, their-problems c.steps)

  -- ---- each step of an accepted file keeps its rules

  steps-kept : {end : ℕ} {t : List ℕ} {l : List Problem} → Steps f end t l → end ≤ length f → end ≤ 1048576 → (k : ℕ)
      → k < length t → Kept f (get_or t k 0)
  steps-kept (first {end} {start} {count} {p} b) h m zero g = file-is-step f end 0 start count p b h m
  steps-kept (first b) h m (suc k) g = absurd (omega arith)
  steps-kept (after {end} {link} {start} {count} {p} b more) h m zero g = file-is-step f end link start count p b h m
  steps-kept (after b more) h m (suc k) g = steps-kept more (omega (arith, link-below b)) (omega (arith, link-below b)) k (omega arith)

  abbrev pub Fine : Result (List ℕ) Refusal → Type 0
  Fine (Err r) = Unit {0}
  Fine (Ok s) = (length s ≤ 40) × ((k : ℕ) → k < length s → Kept f (get_or s k 0))

  pub fine : Fine (chain.ends f)
  fine = go (chain.ends f) settled
    where
      go : (v : Result (List ℕ) Refusal) → Settled v → Fine v
      go (Err r) h = h
      go (Ok s) h = (h.few, steps-kept h.steps (omega arith) h.most)
