-- What the writer writes reads back as the same steps. The walk of the reader goes from the newest step of the file down, and stands at the end of step m where m steps are left.
use Prim.Native.Nat.{ℕ, zero, suc, ◌+◌, ◌-◌, ◌*◌, ◌≤◌, ◌<◌}
use mathlib.Core.Path.{◌≡◌, refl, sym, ◌∙◌, ap}
use mathlib.Core.Bool.{Bool, true, false, cond}
use mathlib.Core.List.{List, [], ◌∷◌, ◌++◌, map, reverse, reverse-append}
use native.Mathlib.Omega.{arith}
use native.Mathlib.Nat.{add-zero, add-suc}
use lib.Dec.{leb}
use Rattle.std.proofs.Common.{None, Result, Ok}
use Rattle.refusals.specs.declared.Refusal.{Refusal}
use lib.Ieee.{Float, nan, fits}
use lib.ListN.{length, get_or, take, drop, take-append-drop}
use lib.Seq.{append_snoc, take-append-le, take_all, take_at, get_or-drop}
use borrow.Author.Tests.{ne_eqb, leb-true}
use Rattle.floats.specs.Ops.{Fits}
use Rattle.loops.specs.Loops.{tab, turns}
use Rattle.loops.proofs.Every.{both_true}
use Rattle.bend_file.specs.Read.{Problem}
use Rattle.bend_file.specs.Chain as chain
use Rattle.bend_writer.specs.RoundTrip.{problem_of, nothing, Held, ReadsBack, WrittenReadsBack, LentReadsBack}
use Rattle.bend_writer.specs.Steps.{Step, step_bytes, chained, file, step_refusal, steps_refusal, several}
use Rattle.bend_writer.specs.Write.{part, before, step_at, lent}
use Rattle.bend_writer.proofs.Chained.{tab-suc, file_snoc, length-suc, front_length, step_kept}
use Rattle.bend_writer.proofs.Rules.{Kept, rules-kept, square-fits, accepted, written_is, answered, left-written}
use Rattle.bend_writer.proofs.StepBack.{refusal-is, link-is, problem-is}
use Rattle.bend_writer.proofs.Within.{tab-take}

-- ---- the walk by its first turn

module _ (f : List ℕ) where
  turn_any : (i j : ℕ) (w : chain.Walk) → chain.turn f i w ≡ chain.turn f j w
  unfolding chain.turn
  turn_any i j (chain.at end steps) = refl
  turn_any i j (chain.ended v) = refl

  first-turn : (k : ℕ) (w : chain.Walk) → turns (suc k) w (chain.turn f) ≡ turns k (chain.turn f 0 w) (chain.turn f)
  unfolding turns
  first-turn zero w = refl
  first-turn (suc k) w = ap (chain.turn f (suc k)) (first-turn k w) ∙ turn_any (suc k) k _

  ended_stays : (k : ℕ) (v : Result (List ℕ) Refusal) → turns k (chain.ended v) (chain.turn f) ≡ chain.ended v
  unfolding turns chain.turn
  ended_stays zero v = refl
  ended_stays (suc k) v = rw (ended_stays k v)

-- ---- the steps f 0, .., f (n - 1), oldest first

module _ (f : ℕ → Step) (n : ℕ) (kept : steps_refusal (tab f n) ≡ None) (few : n ≤ 40) (held : (k i : ℕ) → Fits (get_or (f k).values i nan)) where
  abbrev whole : List ℕ
  whole = file (tab f n)

  abbrev end : ℕ → ℕ
  end m = length (file (tab f m))

  kept_at : (m : ℕ) → m < n → Kept (f m).rows (f m).coords (length (f m).values)
  unfolding step_refusal
  kept_at m h = rules-kept (f m).rows (f m).coords (length (f m).values) (step_kept f m n h kept)

  start-end : end 0 ≡ 0
  unfolding tab turns file chained
  start-end = refl

  bound : (m : ℕ) → m ≤ n → end m ≤ 25884 * m
  bound zero h = omega (arith, start-end)
  bound (suc m) h =
      let k = kept_at m h in
      omega (arith, length-suc f m, bound m (omega arith), k.counted, k.few, square-fits (f m).rows k.few, k.moving)

  -- the file of the first m steps is the front of the whole
  fronts : (m d : ℕ) → take (end m) (file (tab f (m + d))) ≡ file (tab f m)
  fronts m zero = rw add-zero (take_all (end m) (file (tab f m)) (omega arith))
  fronts m (suc d) =
      rw (add-suc, tab-suc f (m + d), file_snoc (tab f (m + d)) (f (m + d)), take-append-le (end m) (file (tab f (m + d))) (step_bytes (end (m + d)) (f (m + d))) (front_length f m (m + d) (omega arith)))
      (fronts m d)

  front : (m : ℕ) → m ≤ n → take (end m) whole ≡ file (tab f m)
  front m h = let q : n ≡ m + (n - m) = omega arith in rw q (fronts m (n - m))

  -- step m in the whole
  split : (m : ℕ) → m < n → whole ≡ file (tab f m) ++ step_bytes (end m) (f m) ++ drop (end (suc m)) whole
  split m h =
      let e : file (tab f (suc m)) ≡ file (tab f m) ++ step_bytes (end m) (f m) = ap file (tab-suc f m) ∙ file_snoc (tab f m) (f m) in
      sym (take-append-drop (end (suc m)) whole) ∙ ap (λ (t : List ℕ). t ++ drop (end (suc m)) whole) (front (suc m) h ∙ e)

  module _ (m : ℕ) (h : m < n) where
    inside : end (suc m) ≤ 1048576
    inside = omega (arith, bound (suc m) h)

    rules : chain.step_refusal whole (end (suc m)) ≡ None
    rules = refusal-is whole (file (tab f m)) (drop (end (suc m)) whole) (f m) (split m h) (end (suc m)) (length-suc f m) (kept_at m h) inside

    link : chain.link whole (end (suc m)) ≡ end m
    link = link-is whole (file (tab f m)) (drop (end (suc m)) whole) (f m) (split m h) (end (suc m)) (length-suc f m) (kept_at m h) inside

    problem : chain.step_problem whole (end (suc m)) ≡ problem_of (f m)
    problem = problem-is whole (file (tab f m)) (drop (end (suc m)) whole) (f m) (split m h) (end (suc m)) (length-suc f m) (kept_at m h) inside (held m)

    turned : (steps : List ℕ) → chain.turn whole 0 (chain.at (end (suc m)) steps) ≡ chain.follow (end m) (steps ++ (end (suc m) ∷ []))
    unfolding chain.turn chain.step chain.passed
    turned steps = rw (rules, link)

  -- the ends of the first m steps, newest first
  newest : ℕ → List ℕ
  newest zero = []
  newest (suc m) = end (suc m) ∷ newest m

  follows : (m : ℕ) (steps : List ℕ) → m < n → chain.follow (end (suc m)) steps ≡ chain.at (end (suc m)) steps
  unfolding chain.follow
  follows m steps h = rw (ne_eqb (end (suc m)) 0 (λ (e : end (suc m) ≡ 0). omega (arith, length-suc f m)))

  walk : (m k : ℕ) (steps : List ℕ) → m < n → turns (suc m + k) (chain.at (end (suc m)) steps) (chain.turn whole) ≡ chain.ended (Ok (steps ++ newest (suc m)))
  unfolding newest chain.follow
  walk zero k steps h =
      let q : suc zero + k ≡ suc k = omega arith in
      rw (q, first-turn whole k (chain.at (end 1) steps), turned 0 h steps, start-end) (ended_stays whole k _)
  walk (suc m) k steps h =
      let q : suc (suc m) + k ≡ suc (suc m + k) = omega arith in
      rw (
        q,
        first-turn whole (suc m + k) (chain.at (end (suc (suc m))) steps),
        turned (suc m) h steps,
        follows m (steps ++ (end (suc (suc m)) ∷ [])) (omega arith),
        walk m k (steps ++ (end (suc (suc m)) ∷ [])) (omega arith),
        append_snoc steps (end (suc (suc m))) (newest (suc m)),
      )

  map_snoc : (l : List Step) (s : Step) → map problem_of (l ++ (s ∷ [])) ≡ map problem_of l ++ (problem_of s ∷ [])
  map_snoc [] s = refl
  map_snoc (t ∷ l) s = ap (λ (r : List Problem). problem_of t ∷ r) (map_snoc l s)

  problems : (m : ℕ) → m ≤ n → map (chain.step_problem whole) (newest m) ≡ reverse (map problem_of (tab f m))
  unfolding newest tab turns
  problems zero h = refl
  problems (suc m) h = rw (problem m h, problems m (omega arith), map_snoc (tab f m) (f m), reverse-append (map problem_of (tab f m)) (problem_of (f m) ∷ []))

  back : (m : ℕ) → n ≡ suc m → chain.pull whole ≡ Ok (reverse (map problem_of (tab f n)))
  unfolding chain.pull chain.ends chain.walked chain.settled
  back m q =
      let k : 40 ≡ suc m + (39 - m) = omega arith in
      let e : turns 40 (chain.at (end n) []) (chain.turn whole) ≡ chain.ended (Ok (newest n)) = rw (← k, ← q) at (walk m (39 - m) [] (omega arith)) in
      rw (e, problems n (omega arith))

-- ---- the claims

reads-file : (l : List Step) → several (length l) ≡ true → steps_refusal l ≡ None → Held l → chain.pull (file l) ≡ Ok (reverse (map problem_of l))
reads-file l some kept held =
    let s = both_true (leb 1 (length l)) (leb (length l) 40) some in
    let h = leb-true 1 (length l) s.0 in
    let f : ℕ → Step = λ (k : ℕ). get_or l k nothing in
    let e : tab f (length l) ≡ l = tab-take nothing l f (length l) (omega arith) (λ (i : ℕ) (b : i < length l). refl) ∙ take_all (length l) l (omega arith) in
    rw e at (back f (length l) (rw e kept) (leb-true (length l) 40 s.1) held (length l - 1) (omega arith))

pub reads-back : ReadsBack
reads-back l room f held h =
    let a = written_is l room f h in
    let k = accepted l room a.0 in
    rw (← a.1) (reads-file l k.0 k.1.kept held)

pub written-reads-back : WrittenReadsBack
written-reads-back l bytes out after held w =
    let k = accepted l (length out) (answered l (length out) bytes w.result).0 in
    let b = (answered l (length out) bytes w.result).1 in
    let e : take bytes after ≡ file l = rw (w.output, left-written l (length out) bytes w.result out, b) (take_at (file l) (drop (length (file l)) out) (length (file l)) refl) in
    rw e (reads-file l k.0 k.1.kept held)

-- ---- what is lent

nan-fits : Fits nan
unfolding fits
nan-fits = tt

each-taken : (l : List Float) → ((j : ℕ) → Fits (get_or l j nan)) → (n i : ℕ) → Fits (get_or (take n l) i nan)
each-taken l h zero i = nan-fits
each-taken [] h (suc n) i = nan-fits
each-taken (x ∷ l) h (suc n) zero = h 0
each-taken (x ∷ l) h (suc n) (suc i) = each-taken l (λ (j : ℕ). h (suc j)) n i

each_of-part : (values : List Float) → ((j : ℕ) → Fits (get_or values j nan)) → (from count i : ℕ) → Fits (get_or (part values from count) i nan)
unfolding part
each_of-part values h from count i = go (leb (from + count) (length values))
  where
    go : (b : Bool) → Fits (get_or (cond b (take count (drop from values)) []) i nan)
    go true = each-taken (drop from values) (λ (j : ℕ). rw (get_or-drop from values j nan) (h (from + j))) count i
    go false = nan-fits

module _ (f : ℕ → Step) (h : (k i : ℕ) → Fits (get_or (f k).values i nan)) where
  each_of_snoc : (l : List Step) (n : ℕ) → Held l → Held (l ++ (f n ∷ []))
  each_of_snoc [] n held zero i = h n i
  each_of_snoc [] n held (suc k) i = nan-fits
  each_of_snoc (t ∷ l) n held zero i = held 0 i
  each_of_snoc (t ∷ l) n held (suc k) i = each_of_snoc l n (λ (j m : ℕ). held (suc j) m) k i

  each_of-tab : (n : ℕ) → Held (tab f n)
  unfolding tab turns
  each_of-tab zero k i = nan-fits
  each_of-tab (suc n) k i = each_of_snoc (tab f n) n (each_of-tab n) k i

pub lent-reads-back : LentReadsBack
unfolding lent step_at
lent-reads-back steps rows coords counts values bytes out after h w =
    written-reads-back (lent steps rows coords counts values) bytes out after
    (each_of-tab (step_at rows coords counts values) (λ (k i : ℕ). each_of-part values h (before counts k) (get_or counts k 0) i) steps) w
