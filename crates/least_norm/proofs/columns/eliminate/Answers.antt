use mathlib.Core.Path.{ap}
use lib.ListN.{set}
use Rattle.least_norm.proofs.Runs.{eliminated-run, columns-run, reflects_front}
use Rattle.least_norm.proofs.columns.eliminate.Goals as goal

pub returns : goal.returns
returns c p =
    let fours = c.reflect_columns-c.ensures in
    let ones = c.reflect_columns.ensures in
    eliminated-run _ _ _ _ _ _ _ (reflects_front _ _ _ _ _ _ c.householder-beta.ensures c.requires.1) c.requires.1 c.requires.2 p _ _ _ _
    c.zero_below.ensures (ap (λ p. set c.reflect_columns.new.a p c.householder-beta.result.beta) c.place.ensures.0) c.reflect_lanes.ensures
    (columns-run _ _ _ _ _ _ _ _ ones.0 fours.0 fours.1 ones.1 ones.2 ones.3)
