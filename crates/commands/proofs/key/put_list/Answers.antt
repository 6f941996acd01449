use mathlib.Core.Path.{sym}
use native.Mathlib.Omega.{arith}
use Rattle.wire.proofs.ReplyLaying.{laid_tail, laid_within, tail_room}
use Rattle.commands.proofs.Answers.{laid_reply}
use Rattle.commands.proofs.FieldLoops.{header_room, header_inside, entries_begin, entries_room, entries_few}
use Rattle.commands.proofs.key.put_list.Goals as goal

pub overflow_mul-count : goal.overflow_mul-count
overflow_mul-count c = omega (arith, entries_few _ _ _ _ c.count_live-count.ensures c.width.ensures c.requires.0)

pub put_header-at-requires : goal.put_header-at-requires
put_header-at-requires c = header_room (entries_few _ _ _ _ c.count_live-count.ensures c.width.ensures c.requires.0) c.requires.1

pub slice_bounds-put_listed-count : goal.slice_bounds-put_listed-count
slice_bounds-put_listed-count c =
    header_inside (entries_few _ _ _ _ c.count_live-count.ensures c.width.ensures c.requires.0) c.requires.1 c.put_header-at.ensures

pub slice_bounds-put_listed-start : goal.slice_bounds-put_listed-start
slice_bounds-put_listed-start c =
    header_inside (entries_few _ _ _ _ c.count_live-count.ensures c.width.ensures c.requires.0) c.requires.1 c.put_header-at.ensures

pub put_listed-requires : goal.put_listed-requires
put_listed-requires c =
    (c.requires.0, tail_room _ c.put_header-at.ensures (entries_room _ _ _ _ c.count_live-count.ensures c.width.ensures c.requires.0 c.requires.1))

pub overflow_add-result : goal.overflow_add-result
overflow_add-result c =
    omega (arith, laid_within (laid_tail c.put_header-at.ensures c.put_listed.ensures) (entries_room _ _ _ _ c.count_live-count.ensures c.width.ensures c.requires.0 c.requires.1))

pub returns : goal.returns
returns c = laid_reply (sym (entries_begin _ _ _ _ c.count_live-count.ensures c.width.ensures)) (laid_tail c.put_header-at.ensures c.put_listed.ensures)
