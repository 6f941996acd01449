use Rattle.store.specs.Store.{state_of}
use Rattle.store.proofs.change.state_of.Goals as goal

pub returns-in-None : goal.returns-in-None
unfolding state_of
returns-in-None c = rw c.in-None.is

pub returns-in-Some : goal.returns-in-Some
unfolding state_of
returns-in-Some c = rw c.in-Some.is
