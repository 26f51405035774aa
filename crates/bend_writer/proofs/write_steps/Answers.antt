use mathlib.Core.Path.{refl}
use Rattle.bend_writer.proofs.Gathered.{first-sizes, pulled-same, too-many}
use Rattle.bend_writer.proofs.write_steps.Goals as goal

pub returns-then-steps-gt-MAX_STEPS : goal.returns-then-steps-gt-MAX_STEPS
returns-then-steps-gt-MAX_STEPS c = too-many _ _ _ _ _ _ c.if-steps-gt-MAX_STEPS.true

pub returns : goal.returns
returns c =
    let is = first-sizes _ _ _ c.args.values.now _ _ c.sizes-sizes.ensures c.if-steps-gt-MAX_STEPS.false in
    rw (pulled-same _ _ _ _ _ _ is _ refl) at c.write_chain.ensures
