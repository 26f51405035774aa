use Rattle.std.proofs.Common.{sym}
use mathlib.Core.Path.{◌∙◌}
use Rattle.boxed.proofs.Turns.{turn-grown, turn-ended, turn-tested}
use Rattle.boxed.proofs.run.turn.Goals as goal

pub returns-in-Some : goal.returns-in-Some
returns-in-Some c =
    turn-grown _ _ _ c.args.p.now.sized.0 c.requires c.sweep-counts.ensures c.grown.ensures c.sweep-counts.auto.nu _ c.in-Some.is

pub returns-then-is_some : goal.returns-then-is_some
returns-then-is_some c =
    turn-ended _ _ _ c.args.p.now.sized.0 c.requires c.sweep-counts.ensures c.grown.ensures c.sweep-counts.auto.nu c.in_default.is
    c.check-ended.ensures (sym c.is_some.ensures ∙ c.if-is_some.true)

pub returns : goal.returns
returns c =
    turn-tested _ _ _ c.args.p.now.sized.0 c.requires c.sweep-counts.ensures c.grown.ensures c.sweep-counts.auto.nu c.in_default.is
    c.check-ended.ensures (sym c.is_some.ensures ∙ c.if-is_some.false) _ _ c.tests.ensures
