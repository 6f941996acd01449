use mathlib.Core.Path.{sym}
use Rattle.wire.specs.Lists.{or_else}
use Rattle.wire.specs.Bytes.{part}
use Rattle.store.specs.Time.{of_key}
use Rattle.store.proofs.SlotParts.{state_empty, other_length, other_word, last_word}
use Rattle.store.proofs.slot.SoughtKey.is_held.Goals as goal

pub returns-then-t-eq-EMPTY_STATE : goal.returns-then-t-eq-EMPTY_STATE
unfolding of_key or_else
returns-then-t-eq-EMPTY_STATE c = rw (← c.slot.view_is, state_empty c.slot.inside.bytes.now c.if-t-eq-EMPTY_STATE.true)

pub returns-then-t-self : goal.returns-then-t-self
returns-then-t-self c =
    rw (← c.self.view_is, ← c.slot.view_is) (sym (other_length c.slot.inside.bytes.now c.self.inside.bytes.now (record { slot = c.slot.invariant; held = c.if-t-eq-EMPTY_STATE.false }) c.if-t-self.true))

pub returns-then-word-self : goal.returns-then-word-self
unfolding part
returns-then-word-self c =
    rw (← c.self.view_is, ← c.slot.view_is) (sym (other_word c.slot.inside.bytes.now c.self.inside.bytes.now (record { slot = c.slot.invariant; held = c.if-t-eq-EMPTY_STATE.false }) 0 c.word.result c.self.inside.low c.word.ensures c.self.invariant.1 c.if-word-self.true))

pub returns : goal.returns
unfolding part
returns c =
    rw (← c.self.view_is, ← c.slot.view_is) (last_word c.slot.inside.bytes.now c.self.inside.bytes.now (record { slot = c.slot.invariant; held = c.if-t-eq-EMPTY_STATE.false }) c.word.result c.word-2.result c.self.inside.low c.self.inside.high c.self.invariant.0 c.if-t-self.false c.word.ensures c.self.invariant.1 c.if-word-self.false c.word-2.ensures c.self.invariant.2)
