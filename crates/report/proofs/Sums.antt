-- The test of a join's sums says what each sum comes to.
use Prim.Native.Nat.{ℕ, ◌+◌, ◌≤◌}
use mathlib.Core.Path.{◌≡◌}
use mathlib.Core.Bool.{true}
use borrow.Author.Tests.{le-leb, leb-true}
use Rattle.loops.proofs.Every.{both_true}
use Rattle.report.specs.declared.SolveReport.{SolveReport}
use Rattle.report.specs.Joins.{most, sum_fits, sums_fit, all_sums_fit, Summable, AllSummable}

fits : (x y : ℕ) → sum_fits x y ≡ true → x + y ≤ most
unfolding sum_fits
fits x y e = leb-true (x + y) most e

fits-back : (x y : ℕ) → x + y ≤ most → sum_fits x y ≡ true
unfolding sum_fits
fits-back x y h = le-leb (x + y) most h

module _ (a b : SolveReport) where
  pub summable : sums_fit a b ≡ true → Summable a b
  unfolding sums_fit
  summable e =
      let s6 = both_true _ (sum_fits a.stopped b.stopped) e in
      let s5 = both_true _ (sum_fits a.exact_passes b.exact_passes) s6.0 in
      let s4 = both_true _ (sum_fits a.sweeps b.sweeps) s5.0 in
      let s3 = both_true _ (sum_fits a.anchors b.anchors) s4.0 in
      let s2 = both_true (sum_fits a.iterations b.iterations) (sum_fits a.rejected b.rejected) s3.0 in
      record {
        iterations = fits a.iterations b.iterations s2.0;
        rejected = fits a.rejected b.rejected s2.1;
        anchors = fits a.anchors b.anchors s3.1;
        sweeps = fits a.sweeps b.sweeps s4.1;
        exact_passes = fits a.exact_passes b.exact_passes s5.1;
        stopped = fits a.stopped b.stopped s6.1;
      }

  pub sums-fit : Summable a b → sums_fit a b ≡ true
  unfolding sums_fit
  sums-fit s =
      rw (
        fits-back a.iterations b.iterations s.iterations,
        fits-back a.rejected b.rejected s.rejected,
        fits-back a.anchors b.anchors s.anchors,
        fits-back a.sweeps b.sweeps s.sweeps,
        fits-back a.exact_passes b.exact_passes s.exact_passes,
        fits-back a.stopped b.stopped s.stopped,
      )

  pub all_summable : all_sums_fit a b ≡ true → AllSummable a b
  unfolding all_sums_fit
  all_summable e =
      let s = both_true (sum_fits a.increments b.increments) (sums_fit a b) e in
      record { increments = fits a.increments b.increments s.0; others = summable s.1 }

  pub all-sums-fit : AllSummable a b → all_sums_fit a b ≡ true
  unfolding all_sums_fit
  all-sums-fit s = rw (fits-back a.increments b.increments s.increments, sums-fit s.others)
