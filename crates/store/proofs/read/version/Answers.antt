use Rattle.store.proofs.ReadAt.{entry_means}
use Rattle.store.proofs.read.version.Goals as goal

pub of-requires : goal.of-requires
of-requires c = (c.requires.well, c.requires.inside)

pub returns : goal.returns
returns c = rw (← (entry_means c.requires c.of.ensures)) c.version.ensures
