use native.Mathlib.Omega.{arith}
use Rattle.store.proofs.Changes.{slot_stamped}
use Rattle.store.proofs.ReadAt.{slot_inside}
use Rattle.store.proofs.change.restamp.Goals as goal

pub place-requires : goal.place-requires
place-requires c = omega (arith, slot_inside c.args.store.now c.args.i c.requires.0.well c.requires.0.inside)

pub slice_bounds-write_stamp-end : goal.slice_bounds-write_stamp-end
slice_bounds-write_stamp-end c = rw c.place.ensures (omega (arith, slot_inside c.args.store.now c.args.i c.requires.0.well c.requires.0.inside))

pub returns : goal.returns
returns c = rw c.place.ensures (slot_stamped c.args.store.now c.args.i c.args.version c.args.expiry c.write_stamp.new.t c.requires.0 c.requires.1 c.requires.2 (rw c.place.ensures at c.write_stamp.ensures))
