use native.Mathlib.Omega.{arith}
use Rattle.store.proofs.Changes.{slot_placed}
use Rattle.store.proofs.ReadAt.{slot_inside}
use Rattle.store.proofs.change.put.Goals as goal

pub place-requires : goal.place-requires
place-requires c = omega (arith, slot_inside c.args.store.now c.args.i c.requires.well c.requires.inside)

pub slice_bounds-write_entry-end : goal.slice_bounds-write_entry-end
slice_bounds-write_entry-end c = rw c.place.ensures (omega (arith, slot_inside c.args.store.now c.args.i c.requires.well c.requires.inside))

pub returns : goal.returns
returns c = rw c.place.ensures (slot_placed c.args.store.now c.args.i _ c.write_entry.new.t c.requires c.write_entry.ensures)
