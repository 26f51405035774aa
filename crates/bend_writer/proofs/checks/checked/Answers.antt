use Rattle.std.proofs.Common.{sym, ◌∙◌}
use borrow.Author.Rules.{rules}
use Rattle.bend_writer.proofs.Passes.{lent_length}
use Rattle.bend_writer.proofs.Rules.{not-several, step-refused, short, enough}
use Rattle.bend_writer.proofs.checks.checked.Goals as goal

pub returns-then-not-several : goal.returns-then-not-several
returns-then-not-several c = not-several _ _ (rw lent_length (sym c.several.ensures ∙ c.if-not-several.true))

pub returns-in_err-bytes : goal.returns-in_err-bytes
returns-in_err-bytes c =
    rw (← step-refused _ _ (rw lent_length (sym c.several.ensures ∙ c.if-not-several.false)) _ c.in_err-bytes.ensures) (search rules)

pub returns-then-room-bytes : goal.returns-then-room-bytes
returns-then-room-bytes c =
    short _ _ (rw lent_length (sym c.several.ensures ∙ c.if-not-several.false)) _ c.in_ok-bytes.ensures c.if-room-bytes.true

pub returns : goal.returns
returns c = enough _ _ (rw lent_length (sym c.several.ensures ∙ c.if-not-several.false)) _ c.in_ok-bytes.ensures c.if-room-bytes.false
