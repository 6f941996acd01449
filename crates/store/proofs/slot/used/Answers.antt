use lib.ListN.{get_or}
use Rattle.store.proofs.SlotParts.{part_of}
use Rattle.store.proofs.slot.used.Goals as goal

pub returns : goal.returns
returns c = part_of c.args.at (get_or c.args.t.now c.args.length_at 0) c.args.t.now
