use Rattle.wire.specs.Bytes.{part}
use Rattle.store.specs.Store.{decode_entry}
use Rattle.store.proofs.slot.Slot.version.Goals as goal

pub returns : goal.returns
unfolding decode_entry part
returns c = rw (← c.self.view_is) c.read_le.ensures
