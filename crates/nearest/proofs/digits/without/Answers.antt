use Rattle.std.proofs.Common.{rules, arith}
use Rattle.nearest.proofs.Words.{quotient}
use Rattle.nearest.proofs.digits.without.Goals as goal

pub overflow_cast-result-2 : goal.overflow_cast-result-2
overflow_cast-result-2 c = record { fits = omega (arith, quotient c.args.m.now (λ i. search rules) c.args.d (omega arith) c.requires.1) }

pub returns : goal.returns
returns c = quotient _ (λ i. search rules) _ (omega arith) c.requires.1
