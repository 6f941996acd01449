use Rattle.store.proofs.ReadAt.{header_inside, count_slots}
use Rattle.store.proofs.read.slots.Goals as goal

pub overflow_sub-result : goal.overflow_sub-result
overflow_sub-result c = header_inside c.args.store.now c.requires

pub returns : goal.returns
returns c = count_slots c.args.store.now
