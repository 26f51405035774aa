use Rattle.std.proofs.Common.{rules, tests}
use Rattle.std.proofs.lemmas.Iterator.{YieldsList-from_slice, YieldsList-from_zip, same_from_all}
use Rattle.exact_pass.proofs.cycles.same_values.Goals as goal

pub returns : goal.returns
returns c = same_from_all c.all.new.self _ _ _ _ c.all.ensures.ran (YieldsList-from_zip (YieldsList-from_slice c.args.a.now cc) (YieldsList-from_slice c.args.b.now cc)) (search rules) (λ x q k. search (rules, tests)) (λ x q k. search (rules, tests))
