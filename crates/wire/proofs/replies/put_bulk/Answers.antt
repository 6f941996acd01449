use mathlib.Core.List.{◌∷◌, ◌++◌}
use native.Mathlib.Omega.{arith}
use lib.ListN.{length}
use Rattle.wire.specs.Integers.{natural_text}
use Rattle.wire.specs.Words.{crlf}
use Rattle.wire.proofs.ReplyLaying.{laid_within, laid_tail, tail_inside, tail_room, front_room, bulk_parts, bulk_room}
use Rattle.wire.proofs.replies.put_bulk.Goals as goal

pub put_count-at-requires : goal.put_count-at-requires
put_count-at-requires c = front_room (36 ∷ natural_text (length c.args.w.now) ++ crlf) (c.args.w.now ++ crlf) (bulk_room c.args.w.now c.requires)

pub slice_bounds-put_line-count : goal.slice_bounds-put_line-count
slice_bounds-put_line-count c = tail_inside (c.args.w.now ++ crlf) c.put_count-at.ensures (bulk_room c.args.w.now c.requires)

pub slice_bounds-put_line-start : goal.slice_bounds-put_line-start
slice_bounds-put_line-start c = tail_inside (c.args.w.now ++ crlf) c.put_count-at.ensures (bulk_room c.args.w.now c.requires)

pub put_line-requires : goal.put_line-requires
put_line-requires c = tail_room (c.args.w.now ++ crlf) c.put_count-at.ensures (bulk_room c.args.w.now c.requires)

pub overflow_add-result : goal.overflow_add-result
overflow_add-result c = omega (arith, laid_within (laid_tail c.put_count-at.ensures c.put_line.ensures) (bulk_room c.args.w.now c.requires))

pub returns : goal.returns
returns c = rw (bulk_parts c.args.w.now) (laid_tail c.put_count-at.ensures c.put_line.ensures)
