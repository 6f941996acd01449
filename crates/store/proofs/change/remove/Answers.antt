use native.Mathlib.Omega.{arith}
use Rattle.store.proofs.Changes.{slot_cleared}
use Rattle.store.proofs.ReadAt.{slot_inside}
use Rattle.store.proofs.change.remove.Goals as goal

pub place-requires : goal.place-requires
place-requires c = omega (arith, slot_inside c.args.store.now c.args.i c.requires.0 c.requires.1)

pub slice_bounds-clear-end : goal.slice_bounds-clear-end
slice_bounds-clear-end c = rw c.place.ensures (omega (arith, slot_inside c.args.store.now c.args.i c.requires.0 c.requires.1))

pub returns : goal.returns
returns c = rw c.place.ensures (slot_cleared c.args.store.now c.requires.0 c.args.i c.requires.1 c.clear.new.s (rw c.place.ensures at c.clear.ensures))
