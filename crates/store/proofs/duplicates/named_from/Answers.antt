use mathlib.Core.Path.{sym, ◌∙◌}
use native.Mathlib.Omega.{arith}
use Prim.Native.Nat.{◌-◌}
use Rattle.store.proofs.StoreChecks.{slot_bytes_lem, seek_begins, seek_finds, seek_goes_on, seek_ends}
use Rattle.store.proofs.duplicates.named_from.Goals as goal

pub loop-i-init : goal.loop-i-init
loop-i-init c = seek_begins _ _ _ _ _ c.requires.from_le_count

pub bytes-requires : goal.bytes-requires
bytes-requires c = omega (arith, c.requires.slots_well.size, c.loop-i.invariant.inside)

pub new-requires : goal.new-requires
new-requires c =
    rw c.bytes.ensures (slot_bytes_lem c.args.count c.args.store.now c.args.from (c.loop-i.i - 1) c.requires.slots_well (omega (arith, c.loop-i-test.true)) (omega (arith, c.loop-i.invariant.inside)))

pub returns-then-holds : goal.returns-then-holds
returns-then-holds c = sym (seek_finds _ _ _ _ _ _ c.loop-i.invariant c.loop-i-test.true (sym (rw (c.new.ensures, c.bytes.ensures) at c.holds.ensures) ∙ c.if-holds.true))

pub loop-i-preserved : goal.loop-i-preserved
loop-i-preserved c = seek_goes_on _ _ _ _ _ _ c.loop-i.invariant c.loop-i-test.true (sym (rw (c.new.ensures, c.bytes.ensures) at c.holds.ensures) ∙ c.if-holds.false)

pub returns : goal.returns
returns c = sym (seek_ends _ _ _ _ _ _ c.loop-i.invariant c.loop-i-test.false)
