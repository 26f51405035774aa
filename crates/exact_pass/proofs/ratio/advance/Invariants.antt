use Rattle.std.proofs.Common.{◌≡◌, length}
use Rattle.exact_pass.specs.Pass as pass
use Rattle.exact_pass.proofs.ratio.advance.Given as goal

abbrev pub invariant-loop-row : goal.invariant-loop-row
invariant-loop-row l = l.nu ≡ pass.advance l.d.rows.now l.d.y.now l.alpha l.initial.nu (length l.yielded)
