use mathlib.Core.Path.{sym, ◌∙◌}
use borrow.Author.Tests.{not-true}
use native.Mathlib.Omega.{arith}
use Rattle.store.proofs.StoreChecks.{slot_bytes_lem, slots_later}
use Rattle.store.proofs.BloomFilter.{turn_empty, turn_new, turn_contained, held_bytes}
use Rattle.store.proofs.duplicates.repeats.Goals as goal

pub new-slot-requires : goal.new-slot-requires
new-slot-requires c = rw c.bytes-t.ensures (slot_bytes_lem _ _ c.args.i c.args.i c.requires.slots (omega arith) c.requires.inside)

pub returns-then-is_empty : goal.returns-then-is_empty
returns-then-is_empty c = turn_empty _ _ _ _ c.requires (sym (rw (c.new-slot.ensures, c.bytes-t.ensures) at c.is_empty.ensures) ∙ c.if-is_empty.true)

pub insert-requires : goal.insert-requires
insert-requires c = c.requires.covered.size

pub returns-then-not-insert : goal.returns-then-not-insert
returns-then-not-insert c = turn_new _ _ _ _ c.requires (sym (rw (c.new-slot.ensures, c.bytes-t.ensures) at c.is_empty.ensures) ∙ c.if-is_empty.false) (rw (c.name_hash.ensures, c.bytes-t.ensures) at c.insert.ensures.filter_after) (sym (rw (c.name_hash.ensures, c.bytes-t.ensures) at c.insert.ensures.value) ∙ not-true c.insert.result c.if-not-insert.true-raw)

pub key-requires : goal.key-requires
key-requires c = rw (c.new-slot.ensures, c.bytes-t.ensures) (held_bytes _ _ _ _ c.requires (sym (rw (c.new-slot.ensures, c.bytes-t.ensures) at c.is_empty.ensures) ∙ c.if-is_empty.false))

pub field-requires : goal.field-requires
field-requires c = rw (c.new-slot.ensures, c.bytes-t.ensures) (held_bytes _ _ _ _ c.requires (sym (rw (c.new-slot.ensures, c.bytes-t.ensures) at c.is_empty.ensures) ∙ c.if-is_empty.false))

pub named_from-requires : goal.named_from-requires
named_from-requires c = record { slots_well = slots_later _ _ _ c.requires.slots; from_le_count = omega (arith, c.requires.inside) }

pub returns : goal.returns
returns c = turn_contained _ _ _ _ c.requires (sym (rw (c.new-slot.ensures, c.bytes-t.ensures) at c.is_empty.ensures) ∙ c.if-is_empty.false) (rw (c.name_hash.ensures, c.bytes-t.ensures) at c.insert.ensures.filter_after) (rw (c.key.ensures, c.field.ensures, c.new-slot.ensures, c.bytes-t.ensures) at c.named_from.ensures)
