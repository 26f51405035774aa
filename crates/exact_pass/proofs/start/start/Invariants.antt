use Rattle.exact_pass.specs.Pass as pass
use Rattle.exact_pass.specs.Private as private
use Rattle.exact_pass.proofs.start.start.Given as goal

abbrev pub invariant-loop-i : goal.invariant-loop-i
invariant-loop-i l = private.Started (pass.start l.p.lo.now l.p.hi.now l.p.scale.now l.initial.nu l.initial.states l.i) l.i l.nu l.states l.acting
