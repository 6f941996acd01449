use mathlib.Core.Path.{refl}
use mathlib.Core.List.{◌++◌}
use native.Mathlib.Omega.{arith}
use Rattle.wire.specs.Replies.{header, bulk, number}
use Rattle.wire.proofs.ReplyLaying.{laid_tail, laid_within, tail_inside, tail_room, front_room}
use Rattle.store.specs.Store.{decode, entry_at}
use Rattle.commands.proofs.Answers.{laid_reply, pair_reply, pair_room}
use Rattle.commands.proofs.answer.put_versioned.Goals as goal

pub put_header-first-requires : goal.put_header-first-requires
put_header-first-requires c =
    front_room (header 2) (bulk (entry_at (decode c.args.bytes.now).slots c.args.i).value) (front_room (header 2 ++ bulk (entry_at (decode c.args.bytes.now).slots c.args.i).value) (number (entry_at (decode c.args.bytes.now).slots c.args.i).version) (pair_room c.requires.0 c.requires.1 refl refl))

pub slice_bounds-put_bulk-count : goal.slice_bounds-put_bulk-count
slice_bounds-put_bulk-count c =
    tail_inside (bulk (entry_at (decode c.args.bytes.now).slots c.args.i).value) c.put_header-first.ensures (front_room (header 2 ++ bulk (entry_at (decode c.args.bytes.now).slots c.args.i).value) (number (entry_at (decode c.args.bytes.now).slots c.args.i).version) (pair_room c.requires.0 c.requires.1 refl refl))

pub slice_bounds-put_bulk-start : goal.slice_bounds-put_bulk-start
slice_bounds-put_bulk-start c =
    tail_inside (bulk (entry_at (decode c.args.bytes.now).slots c.args.i).value) c.put_header-first.ensures (front_room (header 2 ++ bulk (entry_at (decode c.args.bytes.now).slots c.args.i).value) (number (entry_at (decode c.args.bytes.now).slots c.args.i).version) (pair_room c.requires.0 c.requires.1 refl refl))

pub put_bulk-requires : goal.put_bulk-requires
put_bulk-requires c =
    let value = c.value.result in tail_room (bulk value.now) c.put_header-first.ensures (front_room (header 2 ++ bulk value.now) (number (entry_at (decode c.args.bytes.now).slots c.args.i).version) (pair_room c.requires.0 c.requires.1 c.value.ensures refl))

pub overflow_add-second : goal.overflow_add-second
overflow_add-second c =
    omega (arith, laid_within (laid_tail c.put_header-first.ensures c.put_bulk.ensures) (front_room (header 2 ++ bulk c.value.result.now) (number (entry_at (decode c.args.bytes.now).slots c.args.i).version) (pair_room c.requires.0 c.requires.1 c.value.ensures refl)))

pub slice_bounds-put_number-count : goal.slice_bounds-put_number-count
slice_bounds-put_number-count c =
    tail_inside (number c.version.result) (laid_tail c.put_header-first.ensures c.put_bulk.ensures) (pair_room c.requires.0 c.requires.1 c.value.ensures c.version.ensures)

pub slice_bounds-put_number-start : goal.slice_bounds-put_number-start
slice_bounds-put_number-start c =
    tail_inside (number c.version.result) (laid_tail c.put_header-first.ensures c.put_bulk.ensures) (pair_room c.requires.0 c.requires.1 c.value.ensures c.version.ensures)

pub put_number-requires : goal.put_number-requires
put_number-requires c =
    tail_room (number c.version.result) (laid_tail c.put_header-first.ensures c.put_bulk.ensures) (pair_room c.requires.0 c.requires.1 c.value.ensures c.version.ensures)

pub overflow_add-result : goal.overflow_add-result
overflow_add-result c =
    omega (arith, laid_within (laid_tail (laid_tail c.put_header-first.ensures c.put_bulk.ensures) c.put_number.ensures) (pair_room c.requires.0 c.requires.1 c.value.ensures c.version.ensures))

pub returns : goal.returns
returns c = laid_reply (pair_reply c.value.ensures c.version.ensures) (laid_tail (laid_tail c.put_header-first.ensures c.put_bulk.ensures) c.put_number.ensures)
