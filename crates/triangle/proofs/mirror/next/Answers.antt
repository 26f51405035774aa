use Rattle.std.proofs.Common.{ℕ, ◌+◌, ap, ◌∙◌, arith}
use Rattle.triangle.proofs.Mirrored.{place-few, next-below, next-above}
use Rattle.triangle.proofs.mirror.next.Goals as goal

pub overflow_add-result : goal.overflow_add-result
overflow_add-result c = omega (arith, place-few c.args.i c.args.j c.requires.0 c.requires.1, c.requires.2)

pub overflow_add-result-else-j-i : goal.overflow_add-result-else-j-i
overflow_add-result-else-j-i c = omega (arith, place-few c.args.i c.args.j c.requires.0 c.requires.1, c.requires.2)

pub overflow_add-result-else-j-i-2 : goal.overflow_add-result-else-j-i-2
overflow_add-result-else-j-i-2 c = omega (arith, place-few c.args.i c.args.j c.requires.0 c.requires.1, c.requires.2)

pub returns-then-j-i : goal.returns-then-j-i
returns-then-j-i c = ap (λ (x : ℕ). x + 1) c.requires.2 ∙ next-below c.args.i c.args.j c.if-j-i.true

pub returns-else-j-i : goal.returns-else-j-i
returns-else-j-i c = ap (λ (x : ℕ). x + c.args.j + 1) c.requires.2 ∙ next-above c.args.i c.args.j (omega (arith, c.if-j-i.false))
