use Rattle.accumulator.proofs.Values.{carried_on, carried-is}
use Rattle.accumulator.proofs.words.add.Goals as goal

pub returns : goal.returns
returns g c = carried-is _ _ _ _ _ (carried_on _ _ _ _ _ _ _ (rw c.told-terms at c.add_terms-carry.ensures) c.carry_on.ensures)
