use mathlib.Core.Path.{ap}
use mathlib.Core.Bool.{not}
use Rattle.wire.specs.Lists.{or_else}
use Rattle.store.specs.Time.{dead_slot}
use Rattle.store.proofs.SlotParts.{state_empty, dead_held}
use Rattle.store.proofs.slot.Slot.is_dead.Goals as goal

pub returns-then-t-eq-EMPTY_STATE : goal.returns-then-t-eq-EMPTY_STATE
unfolding dead_slot or_else
returns-then-t-eq-EMPTY_STATE c = rw (state_empty c.args.self.now (rw c.self.view_is at c.if-t-eq-EMPTY_STATE.true))

pub returns : goal.returns
returns c = rw (dead_held c.args.self.now c.args.time (rw c.self.view_is at c.if-t-eq-EMPTY_STATE.false)) (ap not c.is_live.ensures)
