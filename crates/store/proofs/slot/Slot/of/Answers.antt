use Rattle.store.proofs.ReadAt.{slot_inside, slot_bytes_lem}
use Rattle.store.proofs.slot.Slot.of.Goals as goal

pub bytes-requires : goal.bytes-requires
bytes-requires c = slot_inside c.args.store.now c.args.i c.requires.0 c.requires.1

pub new-requires : goal.new-requires
new-requires c = slot_bytes_lem c.args.store.now c.args.i c.requires.0 c.requires.1 c.bytes.ensures
