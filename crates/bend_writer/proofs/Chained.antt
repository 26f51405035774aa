-- A pull with one step more: its bytes and its refusal. And of the steps of a list whose rules are kept, each keeps them.
use Rattle.std.proofs.Common.{◌≡◌, ℕ, zero, suc, ◌+◌, ◌-◌, ◌*◌, ◌≤◌, ◌<◌, Option, Some, None, List, [], ◌∷◌, ◌++◌, length, length-append, arith, refl, sym, ◌∙◌, ap}
use native.Mathlib.Nat.{add-zero, add-suc}
use Rattle.std.specs.Option.{option_or}
use Rattle.loops.specs.Loops.{tab, turns}
use Rattle.refusals.specs.declared.Refusal.{Refusal}
use Rattle.refusals.proofs.Calls.{both-kept}
use Rattle.bend_writer.specs.Steps.{Step, step_bytes, chained, file, step_refusal, steps_refusal}
use Rattle.bend_writer.proofs.Laying.{length-step}

-- ---- the bytes

chained_snoc : (l : List Step) (f : List ℕ) (s : Step) → chained f (l ++ (s ∷ [])) ≡ chained f l ++ step_bytes (length (chained f l)) s
unfolding chained
chained_snoc [] f s = refl
chained_snoc (t ∷ l) f s = chained_snoc l (f ++ step_bytes (length f) t) s

pub file_snoc : (l : List Step) (s : Step) → file (l ++ (s ∷ [])) ≡ file l ++ step_bytes (length (file l)) s
unfolding file
file_snoc l s = chained_snoc l [] s

pub file-length : (l : List Step) (s : Step) → length (file (l ++ (s ∷ []))) ≡ length (file l) + (20 + 8 * length s.values)
file-length l s =
    ap length (file_snoc l s)
    ∙ length-append (file l) (step_bytes (length (file l)) s)
    ∙ omega (arith, length-step (length (file l)) s)

-- ---- the refusals

or-none : (a : Option Refusal) → option_or a None ≡ a
or-none None = refl
or-none (Some r) = refl

or_assoc : (a b c : Option Refusal) → option_or a (option_or b c) ≡ option_or (option_or a b) c
or_assoc None b c = refl
or_assoc (Some r) b c = refl

pub refusal_snoc : (l : List Step) (s : Step) → steps_refusal (l ++ (s ∷ [])) ≡ option_or (steps_refusal l) (step_refusal s)
unfolding steps_refusal
refusal_snoc [] s = or-none (step_refusal s)
refusal_snoc (t ∷ l) s = ap (option_or (step_refusal t)) (refusal_snoc l s) ∙ or_assoc (step_refusal t) (steps_refusal l) (step_refusal s)

-- ---- of the steps f 0, f 1, ..

module _ (f : ℕ → Step) where
  pub tab-suc : (n : ℕ) → tab f (suc n) ≡ tab f n ++ (f n ∷ [])
  unfolding tab turns
  tab-suc n = refl

  pub refusal-suc : (n : ℕ) → steps_refusal (tab f (suc n)) ≡ option_or (steps_refusal (tab f n)) (step_refusal (f n))
  refusal-suc n = ap steps_refusal (tab-suc n) ∙ refusal_snoc (tab f n) (f n)

  pub length-suc : (n : ℕ) → length (file (tab f (suc n))) ≡ length (file (tab f n)) + (20 + 8 * length (f n).values)
  length-suc n = ap (λ (l : List Step). length (file l)) (tab-suc n) ∙ file-length (tab f n) (f n)

  -- a refusal stays that of all later steps
  stays : (n d : ℕ) (r : Refusal) → steps_refusal (tab f n) ≡ Some r → steps_refusal (tab f (n + d)) ≡ Some r
  stays n zero r e = rw add-zero e
  stays n (suc d) r e = rw (add-suc, refusal-suc (n + d), stays n d r e)

  pub found : (i n : ℕ) (r : Refusal) → i < n → steps_refusal (tab f i) ≡ None → step_refusal (f i) ≡ Some r → steps_refusal (tab f n) ≡ Some r
  found i n r h e g =
      let q : n ≡ suc i + (n - suc i) = omega arith in
      rw q (stays (suc i) (n - suc i) r (refusal-suc i ∙ rw (e, g)))

  fronts : (n d : ℕ) → steps_refusal (tab f (n + d)) ≡ None → steps_refusal (tab f n) ≡ None
  fronts n zero e = rw add-zero at e
  fronts n (suc d) e = fronts n d (both-kept _ _ (sym (refusal-suc (n + d)) ∙ (rw add-suc at e))).0

  -- where all steps keep their rules, those before step i do, and step i does
  pub front_kept : (i n : ℕ) → i ≤ n → steps_refusal (tab f n) ≡ None → steps_refusal (tab f i) ≡ None
  front_kept i n h e = let q : n ≡ i + (n - i) = omega arith in fronts i (n - i) (rw q at e)

  pub step_kept : (i n : ℕ) → i < n → steps_refusal (tab f n) ≡ None → step_refusal (f i) ≡ None
  step_kept i n h e = (both-kept _ _ (sym (refusal-suc i) ∙ front_kept (suc i) n h e)).1

  longer : (n d : ℕ) → length (file (tab f n)) ≤ length (file (tab f (n + d)))
  longer n zero = rw add-zero (omega arith)
  longer n (suc d) = rw add-suc (omega (arith, longer n d, length-suc (n + d)))

  pub front_length : (i n : ℕ) → i ≤ n → length (file (tab f i)) ≤ length (file (tab f n))
  front_length i n h = let q : n ≡ i + (n - i) = omega arith in rw q (longer i (n - i))
