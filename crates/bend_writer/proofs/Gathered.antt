-- The steps of separate lists, and of the sizes that are gathered from them.
use Rattle.std.proofs.Common.{◌≡◌, ℕ, zero, suc, ◌<◌, ◌≤◌, false, List, length, take, get_or, map, arith, Err, refl, sym, ◌∙◌, ap}
use Rattle.std.proofs.lemmas.List.{ext_get_or, get_or-take}
use lib.Seq.{length-take-le}
use lib.Ieee.{Float}
use lib.ListN.{get_or-map}
use borrow.Author.Tests.{lt-leb}
use mathlib.Core.Bool.{and-false}
use Rattle.loops.specs.Loops.{tab, turns}
use Rattle.loops.proofs.Fill.{tab-length, tab-at}
use Rattle.refusals.specs.declared.Refusal.TheVariants.{Steps}
use Rattle.bend_writer.specs.Private.{size}
use Rattle.bend_writer.specs.Steps.{several}
use Rattle.bend_writer.specs.Write.{before, step_at, lent, pulled, Writes}
use Rattle.bend_writer.specs.declared.StepSize.{StepSize}
use Rattle.bend_writer.proofs.Passes.{zero_size, lent_length}
use Rattle.bend_writer.proofs.Rules.{not-several, refusal-written}

tab-same : {A : Type 0} (f g : ℕ → A) (n : ℕ) → ((i : ℕ) → i < n → f i ≡ g i) → tab f n ≡ tab g n
unfolding tab turns
tab-same f g zero h = refl
tab-same f g (suc n) h = rw (tab-same f g n (λ (i : ℕ) (b : i < n). h i (omega arith)), h n (omega arith))

before-same : (a b : List ℕ) (n : ℕ) → ((i : ℕ) → i < n → get_or a i 0 ≡ get_or b i 0) → before a n ≡ before b n
unfolding before turns
before-same a b zero h = refl
before-same a b (suc n) h = rw (before-same a b n (λ (i : ℕ) (k : i < n). h i (omega arith)), h n (omega arith))

module _ (rows coords counts : List ℕ) (values : List Float) where
  module _ (l : List StepSize) (n : ℕ) (is : l ≡ tab (size rows coords counts) n) where
    at : (i : ℕ) → i < n → get_or l i zero_size ≡ size rows coords counts i
    at i h = rw is (tab-at (size rows coords counts) n i zero_size h)

    count_at : (i : ℕ) → i < n → get_or (map (λ (s : StepSize). s.count) l) i 0 ≡ get_or counts i 0
    count_at i h = get_or-map (λ (s : StepSize). s.count) l i zero_size ∙ ap (λ (s : StepSize). s.count) (at i h)

    step-same : (i : ℕ) → i < n → step_at (map (λ (s : StepSize). s.rows) l) (map (λ (s : StepSize). s.coords) l) (map (λ (s : StepSize). s.count) l) values i ≡ step_at rows coords counts values i
    unfolding step_at
    step-same i h =
        rw (
          get_or-map (λ (s : StepSize). s.rows) l i zero_size ∙ ap (λ (s : StepSize). s.rows) (at i h),
          get_or-map (λ (s : StepSize). s.coords) l i zero_size ∙ ap (λ (s : StepSize). s.coords) (at i h),
          count_at i h,
          before-same (map (λ (s : StepSize). s.count) l) counts i (λ (j : ℕ) (b : j < i). count_at j (omega arith)),
        )

    pub pulled-same : (steps : ℕ) → n ≡ steps → pulled l values ≡ lent steps rows coords counts values
    unfolding lent
    pulled-same steps e =
        let long : length l ≡ n = rw is (tab-length (size rows coords counts) n) in
        rw (long, ← e) (tab-same _ _ n step-same)

  -- the first of all sizes that are made
  pub first-sizes : (all : List StepSize) (steps : ℕ) → all ≡ tab (size rows coords counts) 40 → steps ≤ 40 → take steps all ≡ tab (size rows coords counts) steps
  first-sizes all steps is h =
      let f = size rows coords counts in
      let long : length (take steps all) ≡ steps = length-take-le steps all (omega (arith, ap length is, tab-length f 40)) in
      ext_get_or zero_size _ _ (long ∙ sym (tab-length f steps)) λ (i : ℕ) (b : i < length (take steps all)).
      let k : i < steps = omega (arith, b, long) in
      get_or-take steps all i zero_size k ∙ ap (λ l. get_or l i zero_size) is ∙ tab-at f 40 i zero_size (omega arith) ∙ sym (tab-at f steps i zero_size k)

  pub too-many : (steps : ℕ) (out : List ℕ) → 40 < steps → Writes (lent steps rows coords counts values) (Err Steps) out out
  too-many steps out h =
      let few : several (length (lent steps rows coords counts values)) ≡ false = rw (lent_length rows coords counts values steps, lt-leb steps 40 h) (and-false _) in
      refusal-written _ Steps out (not-several _ (length out) few)
