use Rattle.store.proofs.ReadAt.{slot_means}
use Rattle.store.proofs.read.is_empty.Goals as goal

pub of-requires : goal.of-requires
of-requires c = c.requires

pub returns : goal.returns
returns c = rw (← (slot_means c.args.store.now c.args.i c.requires.1 c.of.ensures)) c.is_empty.ensures
