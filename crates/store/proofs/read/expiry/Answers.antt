use Rattle.store.specs.Store.{decode_entry}
use Rattle.store.proofs.ReadAt.{entry_means}
use Rattle.store.proofs.read.expiry.Goals as goal

pub of-requires : goal.of-requires
of-requires c = (c.requires.well, c.requires.inside)

pub returns : goal.returns
unfolding decode_entry
returns c = rw (← (entry_means c.requires c.of.ensures)) c.expiry.ensures
