use mathlib.Core.Path.{sym, ◌∙◌}
use borrow.Author.Rules.{rules}
use Rattle.refusals.proofs.Calls.{refused}
use Rattle.bend_file.specs.Chain as chain
use Rattle.bend_file.proofs.Bytes.{number32}
use Rattle.bend_file.proofs.StepRules.{subtracted, too-much, crowded, above, misplaced, right}
use Rattle.bend_file.proofs.step.read.Goals as goal

pub returns-then-not-sized : goal.returns-then-not-sized
unfolding chain.step_refusal
returns-then-not-sized c = rw (sym c.sized.ensures ∙ c.if-not-sized.true)

pub returns-in_err-trailer : goal.returns-in_err-trailer
unfolding chain.step_refusal
returns-in_err-trailer c =
    rw (sym c.sized.ensures ∙ c.if-not-sized.false, refused _ _ _ c.in_err-trailer.ensures.read) (search rules)

pub returns-in_err-at : goal.returns-in_err-at
returns-in_err-at c =
    let s = too-much _ _ _ _ _ c.checked_sub.ensures c.in_err-at.ensures.value in
    rw (crowded _ _ (sym c.sized.ensures ∙ c.if-not-sized.false) _ c.in_ok-trailer.ensures.read s.0, ← s.1) (search rules)

pub returns-then-link-at : goal.returns-then-link-at
returns-then-link-at c =
    let s = subtracted _ _ _ _ _ c.checked_sub.ensures c.in_ok-at.ensures.value in
    rw (above _ _ (sym c.sized.ensures ∙ c.if-not-sized.false) _ c.in_ok-trailer.ensures.read s.0 _ _ s.1 (c.from_le_bytes-link.ensures ∙ rw c.bytes_at.ensures (number32 c.args.file.now _)) c.if-link-at.true)

pub returns-then-end : goal.returns-then-end
returns-then-end c =
    let s = subtracted _ _ _ _ _ c.checked_sub.ensures c.in_ok-at.ensures.value in
    rw (misplaced _ _ (sym c.sized.ensures ∙ c.if-not-sized.false) _ c.in_ok-trailer.ensures.read s.0 _ _ s.1 (c.from_le_bytes-link.ensures ∙ rw c.bytes_at.ensures (number32 c.args.file.now _)) c.if-link-at.false _ c.end.ensures c.if-end.true)

pub returns : goal.returns
returns c =
    let s = subtracted _ _ _ _ _ c.checked_sub.ensures c.in_ok-at.ensures.value in
    right _ _ (sym c.sized.ensures ∙ c.if-not-sized.false) _ c.in_ok-trailer.ensures.read s.0 _ _ s.1 (c.from_le_bytes-link.ensures ∙ rw c.bytes_at.ensures (number32 c.args.file.now _)) c.if-link-at.false _ c.end.ensures c.if-end.false
