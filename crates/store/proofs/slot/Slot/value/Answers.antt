use Rattle.store.specs.Store.{decode_entry}
use native.Mathlib.Omega.{arith}
use Rattle.store.proofs.SlotParts.{value_inside}
use Rattle.store.proofs.slot.Slot.value.Goals as goal

pub used-requires : goal.used-requires
used-requires c = record { length_inside = omega arith; used_inside = value_inside c.self.inside.bytes.now (rw (← c.self.view_is) at c.requires) }

pub returns : goal.returns
unfolding decode_entry
returns c = rw (← c.self.view_is) c.used.ensures
