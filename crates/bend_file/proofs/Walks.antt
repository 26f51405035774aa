-- The walk from step to step, as the loop that makes it goes: at the start, after one more step, and each way it ends.
use Rattle.std.proofs.Common.{◌≡◌, ℕ, suc, ◌+◌, ◌≤◌, ◌<◌, Some, None, Result, Ok, Err, List, [], ◌∷◌, ◌++◌, length, take, drop, replicate, add-one, arith, refl, sym, ◌∙◌, ap}
use lib.ListN.{set, length-take, length-set, length-replicate, take-append-drop}
use lib.Seq.{take-suc-set, drop-set-lt, drop-drop}
use borrow.Author.Tests.{eq-eqb, ne_eqb}
use Rattle.loops.proofs.Turns.{turns-start, turns-step, stays}
use Rattle.refusals.specs.declared.Refusal.{Refusal}
use Rattle.refusals.specs.declared.Refusal.TheVariants.{Steps}
use Rattle.refusals.specs.Calls.{unless}
use Rattle.refusals.proofs.Calls.{taken, refused}
use Rattle.bend_file.specs.Little.{over}
use Rattle.bend_file.specs.Chain.{link_at, link, step_refusal, at, ended, follow, passed, step, turn, walked, settled, ends, told}
use Rattle.bend_file.specs.Private as private
use Rattle.bend_file.specs.declared.step.Step.{Step}
use Rattle.bend_file.proofs.StepRules.{kept}

-- ---- an array whose front is a list

module _ {A : Type 0} where
  drop_more : (n : ℕ) (l z : List A) → drop n l ≡ drop n z → drop (n + 1) l ≡ drop (n + 1) z
  drop_more n l z e = sym (drop-drop 1 n l) ∙ ap (drop 1) e ∙ drop-drop 1 n z

  front-is : (n : ℕ) (l z s : List A) → take n l ≡ s → drop n l ≡ drop n z → length s ≡ n → l ≡ over s z
  front-is n l z s e g h = sym (take-append-drop n l) ∙ rw (e, g, h)

module _ (f : List ℕ) where
  -- ---- one step of the walk, from the step that ends at `end`

  module _ (k end : ℕ) (s : List ℕ) (here : walked f k ≡ at end s) where
    one_more : walked f (suc k) ≡ step f end s
    unfolding walked turn
    one_more = turns-step (at (length f) []) (turn f) k ∙ ap (turn f k) here

    pub on-refused : (r : Refusal) → step_refusal f end ≡ Some r → walked f (suc k) ≡ ended (Err r)
    unfolding step passed
    on-refused r h = one_more ∙ rw h

    pub on-first : step_refusal f end ≡ None → link f end ≡ 0 → walked f (suc k) ≡ ended (Ok (s ++ (end ∷ [])))
    unfolding step passed follow
    on-first h e = one_more ∙ rw (h, eq-eqb (link f end) 0 e)

    pub on-after : step_refusal f end ≡ None → (link f end ≡ 0 → ⊥) → walked f (suc k) ≡ at (link f end) (s ++ (end ∷ []))
    unfolding step passed follow
    on-after h g = one_more ∙ rw (h, ne_eqb (link f end) 0 g)

  -- where the walk has ended, the file's verdict stands
  pub verdict : (k : ℕ) (v : Result (List ℕ) Refusal) → k ≤ 40 → walked f k ≡ ended v → ends f ≡ v
  unfolding ends walked settled turn
  verdict k v h e = ap settled (stays (turn f) (at (length f) []) (ended v) k e (λ i g. refl) 40 h)

  pub begun : walked f 0 ≡ at (length f) []
  unfolding walked
  begun = turns-start (at (length f) []) (turn f)

  -- ---- the loop: `count` steps passed, their ends at the front of the array l, and the next step ends at `end`

  pub record Walking (count end : ℕ) (l : List ℕ) : Type 0 where
    pub within : end ≤ length f
    pub size : length l ≡ 40
    pub state : walked f count ≡ at end (take count l)
    pub rest : drop count l ≡ drop count (replicate 40 0)

  pub walk_start : Walking 0 (length f) (replicate 40 0)
  walk_start = record { within = omega arith; size = length-replicate {A = ℕ} 40 0; state = begun; rest = refl }

  module _ (count end : ℕ) (l : List ℕ) (w : Walking count end l) where
    pub walk-over : 40 ≤ count → count ≤ 40 → Err Steps ≡ told (ends f)
    unfolding ends settled
    walk-over h few = let q : count ≡ 40 = omega arith in rw (← q, w.state)

    module _ (less : count < 40) where
      pub walk_refused : (r : Refusal) → Err r ≡ unless (step_refusal f end) (private.step f end) → Err r ≡ told (ends f)
      walk_refused r e =
          rw (verdict (suc count) (Err r) (omega arith) (on-refused count end (take count l) w.state r (refused _ _ r e)))

      -- s is what the reader found of the step
      module _ (s : Step) (read : Ok s ≡ unless (step_refusal f end) (private.step f end)) where
        none : step_refusal f end ≡ None
        none = (taken _ _ s read).0

        is-link : s.link ≡ link f end
        is-link = ap (λ (x : Step). x.link) (taken _ _ s read).1

        longer : take (count + 1) (set l count end) ≡ take count l ++ (end ∷ [])
        longer = rw add-one (take-suc-set l count end (omega (arith, w.size)))

        beyond : drop (count + 1) (set l count end) ≡ drop (count + 1) (replicate 40 0)
        beyond = drop-set-lt (count + 1) l count end (omega arith) ∙ drop_more count l (replicate 40 0) w.rest

        within-link : s.link ≤ length f
        unfolding link_at
        within-link = omega (arith, is-link, (kept f end none w.within).back, w.within)

        pub walk_again : (s.link ≡ 0 → ⊥) → Walking (count + 1) s.link (set l count end)
        walk_again h =
            record {
              within = within-link;
              size = length-set l count end ∙ w.size;
              state = rw (longer, add-one, is-link) (on-after count end (take count l) w.state none λ z. h (is-link ∙ z));
              rest = beyond;
            }

        pub walk_done : s.link ≡ 0 → Ok (record { count = count + 1; ends = set l count end }) ≡ told (ends f)
        walk_done h =
            let t = take count l ++ (end ∷ []) in
            let q = verdict (suc count) (Ok t) (omega arith) (on-first count end (take count l) w.state none (sym is-link ∙ h)) in
            let n : length t ≡ count + 1 = omega
            (arith, ap length longer, length-take (count + 1) (set l count end), length-set l count end, w.size) in
            let g = front-is (count + 1) (set l count end) (replicate 40 0) t longer beyond n in
            (λ i. Ok (record { count = sym n i; ends = g i })) ∙ ap told (sym q)
