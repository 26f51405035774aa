use mathlib.Core.Path.{◌≡◌, sym, ◌∙◌}
use native.Mathlib.Omega.{arith}
use Prim.Native.Nat.{◌+◌, ◌*◌, ◌≤◌}
use lib.ListN.{length}
use borrow.Author.Tests.{eq-eqb, ne_eqb}
use borrow.Author.Rules.{rules}
use Rattle.refusals.proofs.Calls.{taken, refused}
use Rattle.bend_file.specs.Trailer as trailer
use Rattle.bend_file.proofs.Rules.{end_of, not_long}
use Rattle.bend_file.proofs.trailer.of_file.Goals as goal

pub returns-then-not-sized : goal.returns-then-not-sized
unfolding trailer.refusal
returns-then-not-sized c = rw (sym c.sized.ensures ∙ c.if-not-sized.true)

pub returns-in_err-values : goal.returns-in_err-values
unfolding trailer.refusal
returns-in_err-values c =
    rw (sym c.sized.ensures ∙ c.if-not-sized.false, refused _ _ _ c.in_err-values.ensures.read) (search rules)

pub returns-then-end : goal.returns-then-end
unfolding trailer.refusal trailer.reaching
returns-then-end c =
    let t = taken _ _ _ c.in_ok-values.ensures.read in
    let e = end_of _ _ _ _ _ t.1 c.end.ensures in
    let f = c.args.file.now in
    let end = length f in
    let most : end ≤ 65536 = not_long _ _ (sym c.sized.ensures ∙ c.if-not-sized.false) in
    rw (
      sym c.sized.ensures ∙ c.if-not-sized.false,
      t.0,
      ne_eqb _ _ λ (h : trailer.start f end + 8 * trailer.count f end + 16 ≡ end). c.if-end.true (omega (arith, e, h, most)),
    )

pub returns : goal.returns
unfolding trailer.refusal trailer.reaching
returns c =
    let t = taken _ _ _ c.in_ok-values.ensures.read in
    let e = end_of _ _ _ _ _ t.1 c.end.ensures in
    rw (sym c.sized.ensures ∙ c.if-not-sized.false, t.0, eq-eqb _ _ (sym e ∙ c.if-end.false), t.1)
