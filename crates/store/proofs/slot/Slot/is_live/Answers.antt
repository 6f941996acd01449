use Rattle.wire.specs.Lists.{or_else}
use Rattle.store.specs.Time.{before, live_slot}
use Rattle.store.proofs.SlotParts.{state_empty, live_held}
use Rattle.store.proofs.slot.Slot.is_live.Goals as goal

pub returns-then-t-eq-EMPTY_STATE : goal.returns-then-t-eq-EMPTY_STATE
unfolding live_slot or_else
returns-then-t-eq-EMPTY_STATE c = rw (state_empty c.args.self.now (rw c.self.view_is at c.if-t-eq-EMPTY_STATE.true))

pub returns-in-None : goal.returns-in-None
unfolding before
returns-in-None c = rw (live_held c.args.self.now c.args.time (rw c.self.view_is at c.if-t-eq-EMPTY_STATE.false), ← c.expiry-expires.ensures) (rw c.in-None.is)

pub returns-in-Some : goal.returns-in-Some
unfolding before
returns-in-Some c = rw (live_held c.args.self.now c.args.time (rw c.self.view_is at c.if-t-eq-EMPTY_STATE.false), ← c.expiry-expires.ensures) (rw c.in-Some.is)
