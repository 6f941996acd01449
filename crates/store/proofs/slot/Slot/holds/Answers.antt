use Rattle.wire.specs.Bytes.{same}
use mathlib.Core.Path.{sym}
use mathlib.Core.Bool.{and-true, and-false}
use Rattle.wire.specs.Lists.{or_else}
use Rattle.store.specs.Store.{holds, decode_entry}
use Rattle.store.proofs.SlotParts.{state_empty, holds_held}
use Rattle.store.proofs.slot.Slot.holds.Goals as goal

pub returns-then-t-eq-EMPTY_STATE : goal.returns-then-t-eq-EMPTY_STATE
unfolding holds or_else
returns-then-t-eq-EMPTY_STATE c = rw (state_empty c.args.self.now (rw c.self.view_is at c.if-t-eq-EMPTY_STATE.true))

pub returns-then-equal : goal.returns-then-equal
returns-then-equal c = rw (holds_held c.args.self.now c.args.k.now c.args.f.now (rw c.self.view_is at c.if-t-eq-EMPTY_STATE.false), ← c.key.ensures, ← c.field.ensures) (rw (← c.equal.ensures, c.if-equal.true, ← c.equal-then-equal.ensures) (sym (and-true c.equal-then-equal.result)))

pub returns-else-equal : goal.returns-else-equal
returns-else-equal c = rw (holds_held c.args.self.now c.args.k.now c.args.f.now (rw c.self.view_is at c.if-t-eq-EMPTY_STATE.false), ← c.field.ensures) (rw (← c.equal.ensures, c.if-equal.false) (sym (and-false (same (decode_entry c.args.self.now).key c.args.k.now))))

pub field-requires : goal.field-requires
field-requires c = rw (← c.self.view_is) (record { slot = c.self.invariant; held = c.if-t-eq-EMPTY_STATE.false })

pub key-requires : goal.key-requires
key-requires c = rw (← c.self.view_is) (record { slot = c.self.invariant; held = c.if-t-eq-EMPTY_STATE.false })
