use Rattle.std.specs.Prelude.{Some}
use Rattle.wire.specs.Bytes.{part}
use mathlib.Core.Path.{ap, sym, ◌∙◌}
use Rattle.store.proofs.SlotParts.{state_expiring, state_lasting}
use Rattle.store.proofs.slot.Slot.expiry.Goals as goal

pub returns-then-t-eq-EXPIRING_STATE : goal.returns-then-t-eq-EXPIRING_STATE
unfolding part
returns-then-t-eq-EXPIRING_STATE c = rw (← c.self.view_is) (ap Some c.read_le.ensures ∙ sym (state_expiring c.self.inside.bytes.now c.if-t-eq-EXPIRING_STATE.true))

pub returns : goal.returns
returns c = rw (← c.self.view_is) (sym (state_lasting c.self.inside.bytes.now c.if-t-eq-EXPIRING_STATE.false))
