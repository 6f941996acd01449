use native.Mathlib.Omega.{arith}
use Rattle.wire.proofs.ReplyLaying.{laid_tail, laid_within, tail_inside, tail_room}
use Rattle.commands.proofs.Answers.{laid_reply}
use Rattle.commands.proofs.ListedSlots.{shown_field, shown_value, shown_both, field_room, value_room, first_room, both_room}
use Rattle.commands.proofs.key.put_entry.Goals as goal

pub put_bulk-requires : goal.put_bulk-requires
put_bulk-requires c = field_room _ c.requires.1 c.in-Fields.is c.field.ensures

pub put_bulk-requires-in-Values : goal.put_bulk-requires-in-Values
put_bulk-requires-in-Values c = value_room _ c.requires.1 c.in-Values.is c.value.ensures

pub put_bulk-at-requires : goal.put_bulk-at-requires
put_bulk-at-requires c = first_room _ c.requires.1 c.in-Both.is c.field-in-Both.ensures

pub slice_bounds-put_bulk-count : goal.slice_bounds-put_bulk-count
slice_bounds-put_bulk-count c = tail_inside _ c.put_bulk-at.ensures (both_room _ c.requires.1 c.in-Both.is c.field-in-Both.ensures c.value-in-Both.ensures)

pub slice_bounds-put_bulk-start : goal.slice_bounds-put_bulk-start
slice_bounds-put_bulk-start c = tail_inside _ c.put_bulk-at.ensures (both_room _ c.requires.1 c.in-Both.is c.field-in-Both.ensures c.value-in-Both.ensures)

pub put_bulk-requires-in-Both : goal.put_bulk-requires-in-Both
put_bulk-requires-in-Both c = tail_room _ c.put_bulk-at.ensures (both_room _ c.requires.1 c.in-Both.is c.field-in-Both.ensures c.value-in-Both.ensures)

pub overflow_add-result : goal.overflow_add-result
overflow_add-result c = omega (arith, laid_within (laid_tail c.put_bulk-at.ensures c.put_bulk-in-Both.ensures) (both_room _ c.requires.1 c.in-Both.is c.field-in-Both.ensures c.value-in-Both.ensures))

pub returns-in-Fields : goal.returns-in-Fields
returns-in-Fields c = laid_reply (shown_field _ c.in-Fields.is c.field.ensures) c.put_bulk.ensures

pub returns-in-Values : goal.returns-in-Values
returns-in-Values c = laid_reply (shown_value _ c.in-Values.is c.value.ensures) c.put_bulk-in-Values.ensures

pub returns-in-Both : goal.returns-in-Both
returns-in-Both c = laid_reply (shown_both _ c.in-Both.is c.field-in-Both.ensures c.value-in-Both.ensures) (laid_tail c.put_bulk-at.ensures c.put_bulk-in-Both.ensures)
