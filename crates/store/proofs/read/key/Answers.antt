use Rattle.store.proofs.ReadAt.{held_bytes, entry_means}
use Rattle.store.proofs.read.key.Goals as goal

pub of-requires : goal.of-requires
of-requires c = (c.requires.well, c.requires.inside)

pub key-requires : goal.key-requires
key-requires c = held_bytes c.requires c.of.ensures

pub returns : goal.returns
returns c = rw (← (entry_means c.requires c.of.ensures)) c.key.ensures
