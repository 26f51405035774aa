-- What demand 3 says of a solve decides the counts that it reports: no two reports of one solve differ in sweeps, passes or rows stopped.
use Prim.Native.Nat.{ℕ, zero, suc, ◌<◌}
use mathlib.Core.Path.{◌≡◌, refl, sym, ◌∙◌, ap}
use mathlib.Core.Bool.{Bool, ◌&&◌, true≢false}
use native.Mathlib.Omega.{arith}
use lib.Dec.{ltb}
use borrow.Author.Tests.{lt-ltb}
use Rattle.boxed.specs.Solve.{Result}
use Rattle.boxed.specs.declared.BoxReport.{BoxReport}
use Rattle.tally.specs.Tally.{Call}
use Rattle.demand3.specs.Claims.{passes_in, stopped_in_last, Sound}

-- the last sweep of one report is not one after which another still went on
not-before : (c : Call) (a b : Result) (g h : Bool) (r s : BoxReport) → Sound c a g r → Sound c b h s → r.sweeps < s.sweeps → ⊥
not-before c a b g h r s x y l = go r.sweeps refl
  where
    go : (k : ℕ) → r.sweeps ≡ k → ⊥
    go zero e = let z = y.none_acts (x.no_sweep e) in omega arith
    go (suc k) e =
        let few = y.few_sweeps in
        true≢false
        (sym (ap (λ (d : Bool). d && ltb r.sweeps 200) (y.made_sweeps r.sweeps l) ∙ lt-ltb r.sweeps 200 (omega arith)) ∙ x.last_sweep (omega arith))

module _ (c : Call) (a b : Result) (g h : Bool) (r s : BoxReport) (x : Sound c a g r) (y : Sound c b h s) where
  pub sweeps_decided : r.sweeps ≡ s.sweeps
  sweeps_decided = omega (arith, not-before c a b g h r s x y, not-before c b a h g s r y x)

  pub passes_decided : r.exact_passes ≡ s.exact_passes
  passes_decided = x.made_passes ∙ ap (passes_in c) sweeps_decided ∙ sym y.made_passes

  pub stopped_decided : r.stopped ≡ s.stopped
  stopped_decided = x.stopped ∙ ap (stopped_in_last c) sweeps_decided ∙ sym y.stopped
