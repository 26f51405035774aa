use native.Mathlib.Omega.{arith}
use mathlib.Core.Path.{refl, ◌∙◌, ap}
use Rattle.bend_writer.specs.Bytes.{bytes64, pattern}
use Rattle.bend_writer.proofs.Laying.{reading_put, low32, low64, put_start, put_again, step_put}
use Rattle.bend_writer.proofs.steps.Cursor.put_step.Goals as goal

pub loop-value-init : goal.loop-value-init
loop-value-init c = put_start c.args.values.now _

pub put-requires-in-loop-value : goal.put-requires-in-loop-value
put-requires-in-loop-value c =
    let l = c.loop-value.invariant in
    (omega arith, omega (arith, c.requires, c.put.ensures.at, c.put.ensures.long, l.at, l.long))

pub loop-value-preserved : goal.loop-value-preserved
unfolding pattern
loop-value-preserved c =
    let one = reading_put c.put-in-loop-value.ensures (low64 _ ∙ ap bytes64 c.f64_to_bits_with_nan.ensures) in
    put_again _ _ _ c.loop-value.invariant one c.loop-value-test.true refl

pub put_trailer-requires : goal.put_trailer-requires
put_trailer-requires c =
    let l = c.loop-value.invariant in
    omega (arith, c.requires, c.put.ensures.at, c.put.ensures.long, l.at, l.long)

pub returns : goal.returns
returns c =
    let link = reading_put c.put.ensures (low32 _) in
    step_put _ _ _ link c.loop-value.invariant c.loop-value-test.false (omega arith) c.put_trailer.ensures c.requires.0
