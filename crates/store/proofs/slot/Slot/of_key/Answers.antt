use Rattle.wire.specs.Lists.{or_else}
use Rattle.store.specs.Time.{of_key}
use Rattle.store.proofs.SlotParts.{state_empty, key_held}
use Rattle.store.proofs.slot.Slot.of_key.Goals as goal

pub returns-then-t-eq-EMPTY_STATE : goal.returns-then-t-eq-EMPTY_STATE
unfolding of_key or_else
returns-then-t-eq-EMPTY_STATE c = rw (state_empty c.args.self.now (rw c.self.view_is at c.if-t-eq-EMPTY_STATE.true))

pub returns : goal.returns
returns c = rw (key_held c.args.self.now c.args.k.now (rw c.self.view_is at c.if-t-eq-EMPTY_STATE.false), ← c.key.ensures) c.equal.ensures

pub key-requires : goal.key-requires
key-requires c = rw (← c.self.view_is) (record { slot = c.self.invariant; held = c.if-t-eq-EMPTY_STATE.false })
