use native.Mathlib.Omega.{arith}
use Rattle.wire.proofs.ReplyLaying.{laid_length, laid_within, laid_tail, tail_inside, tail_room}
use Rattle.compare.specs.Listing.{spaced}
use Rattle.compare.proofs.LineTexts.{room_slot_lem, room_field, room_key, mark_space, key_space, key_laid, newline_inside, line_laid}
use Rattle.compare.proofs.line.put_line.Goals as goal

pub bounds-out-0 : goal.bounds-out-0
bounds-out-0 c = omega (arith, room_key _ _ _ _ _ c.requires)

pub slice_bounds-put_spaced-count : goal.slice_bounds-put_spaced-count
slice_bounds-put_spaced-count c = mark_space _ _ _ _ _ c.requires

pub slice_bounds-put_spaced-start : goal.slice_bounds-put_spaced-start
slice_bounds-put_spaced-start c = mark_space _ _ _ _ _ c.requires

pub put_spaced-at-requires : goal.put_spaced-at-requires
put_spaced-at-requires c = key_space _ _ _ _ _ c.requires

pub overflow_add-at : goal.overflow_add-at
overflow_add-at c = omega (arith, laid_within (key_laid _ _ _ _ _ c.requires c.put_spaced-at.ensures) (room_key _ _ _ _ _ c.requires))

pub slice_bounds-put_spaced-count-2 : goal.slice_bounds-put_spaced-count-2
slice_bounds-put_spaced-count-2 c = tail_inside (spaced c.args.field) (key_laid _ _ _ _ _ c.requires c.put_spaced-at.ensures) (room_field _ _ _ _ _ c.requires)

pub slice_bounds-put_spaced-start-2 : goal.slice_bounds-put_spaced-start-2
slice_bounds-put_spaced-start-2 c = tail_inside (spaced c.args.field) (key_laid _ _ _ _ _ c.requires c.put_spaced-at.ensures) (room_field _ _ _ _ _ c.requires)

pub put_spaced-requires : goal.put_spaced-requires
put_spaced-requires c = tail_room (spaced c.args.field) (key_laid _ _ _ _ _ c.requires c.put_spaced-at.ensures) (room_field _ _ _ _ _ c.requires)

pub overflow_add-next : goal.overflow_add-next
overflow_add-next c =
    omega (arith, laid_within (laid_tail (key_laid _ _ _ _ _ c.requires c.put_spaced-at.ensures) c.put_spaced.ensures) (room_field _ _ _ _ _ c.requires))

pub slice_bounds-put_spaced-count-3 : goal.slice_bounds-put_spaced-count-3
slice_bounds-put_spaced-count-3 c =
    tail_inside (spaced c.args.slot) (laid_tail (key_laid _ _ _ _ _ c.requires c.put_spaced-at.ensures) c.put_spaced.ensures)
    (room_slot_lem _ _ _ _ _ c.requires)

pub slice_bounds-put_spaced-start-3 : goal.slice_bounds-put_spaced-start-3
slice_bounds-put_spaced-start-3 c =
    tail_inside (spaced c.args.slot) (laid_tail (key_laid _ _ _ _ _ c.requires c.put_spaced-at.ensures) c.put_spaced.ensures)
    (room_slot_lem _ _ _ _ _ c.requires)

pub put_spaced-requires-2 : goal.put_spaced-requires-2
put_spaced-requires-2 c =
    tail_room (spaced c.args.slot) (laid_tail (key_laid _ _ _ _ _ c.requires c.put_spaced-at.ensures) c.put_spaced.ensures) (room_slot_lem _ _ _ _ _ c.requires)

pub overflow_add-last : goal.overflow_add-last
overflow_add-last c =
    omega (
      arith,
      laid_within (laid_tail (laid_tail (key_laid _ _ _ _ _ c.requires c.put_spaced-at.ensures) c.put_spaced.ensures) c.put_spaced-2.ensures)
          (room_slot_lem _ _ _ _ _ c.requires),
    )

pub bounds-out-last : goal.bounds-out-last
bounds-out-last c =
    newline_inside _ _ _ _ _ c.requires (laid_tail (laid_tail (key_laid _ _ _ _ _ c.requires c.put_spaced-at.ensures) c.put_spaced.ensures)
    c.put_spaced-2.ensures)

pub overflow_add-result : goal.overflow_add-result
overflow_add-result c =
    omega (
      arith,
      laid_within (line_laid _ _ _ _ _ c.requires
          (laid_tail (laid_tail (key_laid _ _ _ _ _ c.requires c.put_spaced-at.ensures) c.put_spaced.ensures) c.put_spaced-2.ensures)) c.requires,
    )

pub shape_of-out : goal.shape_of-out
shape_of-out c =
    laid_length (line_laid _ _ _ _ _ c.requires (laid_tail (laid_tail (key_laid _ _ _ _ _ c.requires c.put_spaced-at.ensures) c.put_spaced.ensures)
    c.put_spaced-2.ensures)) c.requires

pub returns : goal.returns
returns c =
    line_laid _ _ _ _ _ c.requires (laid_tail (laid_tail (key_laid _ _ _ _ _ c.requires c.put_spaced-at.ensures) c.put_spaced.ensures) c.put_spaced-2.ensures)
