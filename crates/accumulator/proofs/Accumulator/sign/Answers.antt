use Rattle.std.proofs.Common.{sym, ◌∙◌, rules}
use Rattle.accumulator.proofs.Tops.{sign_below, sign_zero, sign_above}
use Rattle.accumulator.proofs.Accumulator.sign.Goals as goal

pub returns-then-words-ge9223372036854775808 : goal.returns-then-words-ge9223372036854775808
returns-then-words-ge9223372036854775808 c = sign_below _ (record { all = search rules; each = λ i. search rules }) c.if-words-ge9223372036854775808.true

pub returns-then-is_zero : goal.returns-then-is_zero
returns-then-is_zero c = sign_zero _ (record { all = search rules; each = λ i. search rules }) c.if-words-ge9223372036854775808.false (sym c.is_zero.ensures ∙ c.if-is_zero.true)

pub returns-else-is_zero : goal.returns-else-is_zero
returns-else-is_zero c = sign_above _ (record { all = search rules; each = λ i. search rules }) c.if-words-ge9223372036854775808.false (sym c.is_zero.ensures ∙ c.if-is_zero.false)
