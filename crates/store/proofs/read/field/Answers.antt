use Rattle.store.proofs.ReadAt.{held_bytes, entry_means}
use Rattle.store.proofs.read.field.Goals as goal

pub of-requires : goal.of-requires
of-requires c = (c.requires.well, c.requires.inside)

pub field-requires : goal.field-requires
field-requires c = held_bytes c.requires c.of.ensures

pub returns : goal.returns
returns c = rw (← (entry_means c.requires c.of.ensures)) c.field.ensures
