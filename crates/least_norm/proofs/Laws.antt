-- The laws of loops, as sets that the check tries at each goal of a function or a module that names one.
use lib.ListN.{length-set, length-replicate}
use Rattle.loops.proofs.Turns.{between-from, between_again}
use Rattle.loops.proofs.Updates.{updated-start, updated_again}
use Rattle.floats.proofs.Sums.{gathered-start, sum_again, difference_again}
use Rattle.least_norm.proofs.Steps.{zero_below-start, substituted-from, substituted_again}

pub ruleset updates = (updated-start, updated_again, length-set, length-replicate)

pub ruleset sums = (gathered-start, sum_again, difference_again)

pub ruleset turns = (between-from, between_again)

pub ruleset zeros = (zero_below-start, updated_again)

pub ruleset substitutions = (substituted-from, substituted_again)
