use Rattle.std.proofs.Common.{sym, ap, ◌∙◌, rules, arith, ◌≡◌, length}
use Rattle.std.proofs.Math.Logic.{⊎_elim}
use Rattle.std.proofs.lemmas.Result.{err_from_is_err_and}
use Rattle.accumulator.specs.Accumulators.{shorter, row}
use Rattle.accumulator.specs.Steps.{products}
use Rattle.accumulator.proofs.Calls.{empty-is, row-many, begun, begin_refused, none-counted, ended, ended_second}
use Rattle.accumulator.proofs.rows.row.Goals as goal

pub returns-then-min : goal.returns-then-min
unfolding shorter
returns-then-min c = row-many _ _ _ (omega (arith, c.min.ensures, c.if-min.true))

pub returns-in_err-take_free : goal.returns-in_err-take_free
unfolding shorter
returns-in_err-take_free c =
    let p = err_from_is_err_and c.from_residual.result c.from_residual.ensures.1 in
    rw (p.1, p.2) (begin_refused _ _ _ (omega (arith, c.min.ensures, c.if-min.false)) _ (rw empty-is at c.in_err-take_free.ensures.0))

pub loop-entry-init : goal.loop-entry-init
unfolding shorter
loop-entry-init c =
    let h : products c.take_free.new.self c.args.w.now c.args.nu.now ≡ row c.args.u c.args.w.now c.args.nu.now
    = begun _ _ _ (omega (arith, c.min.ensures, c.if-min.false)) _ (rw empty-is at c.in_ok-take_free.ensures) in
    let none = none-counted _ _ (rw empty-is at c.in_ok-take_free.ensures) in
    let x : c.into_iter-entry-iterator.result.a.rest.now ≡ c.args.w.now = search rules in
    let y : c.into_iter-entry-iterator.result.b.rest.now ≡ c.args.nu.now = search rules in
    rw (x, y) (h, omega (arith, none, c.min.ensures, c.if-min.false))

pub loop-entry-preserved : goal.loop-entry-preserved
unfolding products
loop-entry-preserved c =
    let x = ap length c.in-Some.ensures.steps.0 in
    let y = ap length c.in-Some.ensures.steps.1 in (
      rw (c.in-Some.ensures.steps.0, c.in-Some.ensures.steps.1, sym c.in_ok-put_product.ensures.0) at c.loop-entry.invariant.0,
      omega (arith, x, y, c.in_ok-put_product.ensures.1, c.loop-entry.invariant.1),
    )

pub put_product-requires : goal.put_product-requires
put_product-requires c =
    let x = ap length c.in-Some.ensures.steps.0 in
    let y = ap length c.in-Some.ensures.steps.1 in
    omega (arith, x, y, c.loop-entry.invariant.1)

pub returns-in_err-put_product : goal.returns-in_err-put_product
unfolding products
returns-in_err-put_product c =
    let p = err_from_is_err_and c.from_residual-in_err-put_product.result c.from_residual-in_err-put_product.ensures.1 in
    rw (p.1, p.2) (rw (c.in-Some.ensures.steps.0, c.in-Some.ensures.steps.1, sym c.in_err-put_product.ensures.0) at c.loop-entry.invariant.0)

pub returns : goal.returns
returns c =
    ⊎_elim
    (λ e. ended _ _ _ e.1.0 ∙ c.loop-entry.invariant.0)
    (λ e. ended_second _ _ _ e.1.0 ∙ c.loop-entry.invariant.0)
    c.in-None.ensures.steps
