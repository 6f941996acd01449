use mathlib.Core.Path.{sym}
use Rattle.store.proofs.SlotParts.{empty_state_lem}
use Rattle.store.proofs.slot.Slot.is_empty.Goals as goal

pub returns : goal.returns
returns c = rw (← c.self.view_is) (sym (empty_state_lem c.self.inside.bytes.now))
