use mathlib.Core.Path.{◌≡◌, sym, ◌∙◌}
use native.Mathlib.Omega.{arith}
use borrow.Author.Rules.{rules}
use Rattle.bend_file.specs.Trailer.{wanted}
use Rattle.bend_file.proofs.Rules.{has_count, no-count}
use Rattle.bend_writer.proofs.Rules.{had-all, had-none, too_large, wide, miscounted, kept}
use Rattle.bend_writer.proofs.StepSize.check.Goals.{then-self-left-via-then-self-left, then-self-left-via-else-self-left+then-self-wanted}
use Rattle.bend_writer.proofs.StepSize.check.Goals as goal

pub returns-in_err-wanted : goal.returns-in_err-wanted
returns-in_err-wanted c =
    let s = c.args.self in
    let w = no-count s.rows s.coords _ _ (rw c.value_count.ensures at c.in_err-wanted.ensures.value) in
    rw (too_large s.rows s.coords _ w.0, ← w.1) (search rules)

pub returns-then-self-gt-MAX_COORDS : goal.returns-then-self-gt-MAX_COORDS
returns-then-self-gt-MAX_COORDS c = rw (wide _ _ _ c.if-self-gt-MAX_COORDS.true)

pub returns-then-self-left : goal.returns-then-self-left
returns-then-self-left c =
    let s = c.args.self in
    let w = has_count s.rows s.coords _ _ (rw c.value_count.ensures at c.in_ok-wanted.ensures.value) in
    elim c.then-self-left.branch [
      | then-self-left-via-then-self-left b ↦ rw (had-none _ _ b.if-self-left.true, miscounted _ _ _ w.0 c.if-self-gt-MAX_COORDS.false (λ (e : 0 ≡ wanted s.rows s.coords). omega (arith, e)))
      | then-self-left-via-else-self-left+then-self-wanted b ↦ rw (had-all _ _ b.if-self-left.false, miscounted _ _ _ w.0 c.if-self-gt-MAX_COORDS.false (λ e. b.if-self-wanted.true (e ∙ sym w.1)))
    ]

pub returns : goal.returns
returns c =
    let s = c.args.self in
    let w = has_count s.rows s.coords _ _ (rw c.value_count.ensures at c.in_ok-wanted.ensures.value) in
    rw (had-all _ _ c.if-self-left.false, kept _ _ _ w.0 c.if-self-gt-MAX_COORDS.false (c.if-self-wanted.false ∙ w.1))
