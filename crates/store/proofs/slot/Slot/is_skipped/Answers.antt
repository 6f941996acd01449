use mathlib.Core.Path.{sym}
use Rattle.wire.specs.Lists.{or_else}
use Rattle.store.specs.Search.{skipped}
use Rattle.store.proofs.SlotParts.{state_empty}
use Rattle.store.proofs.Comparing.{skipped_key, skipped_field}
use Rattle.store.proofs.slot.Slot.is_skipped.Goals as goal

pub returns-then-t-eq-EMPTY_STATE : goal.returns-then-t-eq-EMPTY_STATE
unfolding skipped or_else
returns-then-t-eq-EMPTY_STATE c = rw (← c.self.view_is, state_empty c.self.inside.bytes.now c.if-t-eq-EMPTY_STATE.true)

pub returns-then-t-k : goal.returns-then-t-k
returns-then-t-k c =
    rw (← c.self.view_is) (sym (skipped_key c.self.inside.bytes.now c.args.k.now c.args.f.now (record { slot = c.self.invariant; held = c.if-t-eq-EMPTY_STATE.false }) c.if-t-k.true))

pub returns : goal.returns
returns c =
    rw (← c.self.view_is) (sym (skipped_field c.self.inside.bytes.now c.args.k.now c.args.f.now (record { slot = c.self.invariant; held = c.if-t-eq-EMPTY_STATE.false }) c.if-t-k.false))
