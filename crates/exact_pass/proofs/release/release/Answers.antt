use Rattle.exact_pass.proofs.Releases.{released_within, release_found, release_moved}
use Rattle.exact_pass.proofs.release.release.Goals as goal

pub bounds-states-i : goal.bounds-states-i
bounds-states-i c = rw c.requires.states (released_within _ _ _ _ c.in-Some.ensures)

pub returns-in-None : goal.returns-in-None
returns-in-None c = release_found _ _ _ c.in-None.ensures

pub returns-in-Some : goal.returns-in-Some
returns-in-Some c = release_moved _ _ _ _ c.in-Some.ensures
