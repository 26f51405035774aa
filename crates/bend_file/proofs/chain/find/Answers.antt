use mathlib.Core.Path.{sym, ◌∙◌}
use lib.Seq.{length-take-le}
use Rattle.bend_file.proofs.Front.{front}
use borrow.Author.Rules.{rules}
use Rattle.bend_file.proofs.Picked.{found-refused, found-past, found_at, not-refused, found-here}
use Rattle.bend_file.proofs.chain.find.Goals as goal

pub returns-in_err-chain : goal.returns-in_err-chain
returns-in_err-chain c = rw (← found-refused _ _ _ c.in_err-chain.ensures) (search rules)

pub returns-then-step-chain : goal.returns-then-step-chain
returns-then-step-chain c = found-past _ _ _ c.in_ok-chain.ensures c.if-step-chain.true

pub slice_bounds-read-end : goal.slice_bounds-read-end
slice_bounds-read-end c = sym (length-take-le _ _ (found_at _ _ _ c.in_ok-chain.ensures c.if-step-chain.false).keeps.within)

pub returns-in_err-found : goal.returns-in_err-found
returns-in_err-found c = absurd (not-refused _ _ _ c.in_ok-chain.ensures c.if-step-chain.false _ (c.in_err-found.ensures ∙ front _ _ (found_at _ _ _ c.in_ok-chain.ensures c.if-step-chain.false).keeps.within))

pub returns : goal.returns
returns c = found-here _ _ _ c.in_ok-chain.ensures c.if-step-chain.false _ (c.in_ok-found.ensures ∙ front _ _ (found_at _ _ _ c.in_ok-chain.ensures c.if-step-chain.false).keeps.within)
