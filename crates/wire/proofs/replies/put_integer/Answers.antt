use mathlib.Core.List.{◌∷◌}
use native.Mathlib.Omega.{arith}
use Rattle.wire.specs.Bytes.{text}
use Rattle.wire.specs.Integers.{integer_text}
use Rattle.wire.specs.Words.{crlf}
use Rattle.wire.specs.Replies.{integer}
use Rattle.wire.specs.Promises.{integer_of}
use Rattle.wire.proofs.ReplyLaying.{laid_within, laid_tail, tail_inside, tail_room, front_room, mark_inside, mark_room, marked}
use Rattle.wire.proofs.replies.put_integer.Goals as goal

pub bounds-out-0 : goal.bounds-out-0
unfolding integer text
bounds-out-0 c = omega arith

pub slice_bounds-write_integer-count : goal.slice_bounds-write_integer-count
unfolding integer text
slice_bounds-write_integer-count c = mark_inside _ (integer_text (integer_of c.args.z)) crlf c.args.out.now c.requires

pub slice_bounds-write_integer-start : goal.slice_bounds-write_integer-start
unfolding integer text
slice_bounds-write_integer-start c = mark_inside _ (integer_text (integer_of c.args.z)) crlf c.args.out.now c.requires

pub write_integer-at-requires : goal.write_integer-at-requires
unfolding integer text
write_integer-at-requires c = mark_room _ (integer_text (integer_of c.args.z)) crlf c.args.out.now c.requires

pub overflow_add-at : goal.overflow_add-at
unfolding integer text
overflow_add-at c = omega (arith, laid_within (marked _ (integer_text (integer_of c.args.z)) crlf c.args.out.now (c.requires) c.write_integer-at.ensures) (front_room (58 ∷ (integer_text (integer_of c.args.z))) crlf (c.requires)))

pub slice_bounds-put_end-count : goal.slice_bounds-put_end-count
unfolding integer text
slice_bounds-put_end-count c = tail_inside crlf (marked _ (integer_text (integer_of c.args.z)) crlf c.args.out.now (c.requires) c.write_integer-at.ensures) (c.requires)

pub slice_bounds-put_end-start : goal.slice_bounds-put_end-start
unfolding integer text
slice_bounds-put_end-start c = tail_inside crlf (marked _ (integer_text (integer_of c.args.z)) crlf c.args.out.now (c.requires) c.write_integer-at.ensures) (c.requires)

pub put_end-requires : goal.put_end-requires
unfolding integer text
put_end-requires c = tail_room crlf (marked _ (integer_text (integer_of c.args.z)) crlf c.args.out.now (c.requires) c.write_integer-at.ensures) (c.requires)

pub overflow_add-result : goal.overflow_add-result
unfolding integer text
overflow_add-result c = omega (arith, laid_within (laid_tail (marked _ (integer_text (integer_of c.args.z)) crlf c.args.out.now (c.requires) c.write_integer-at.ensures) c.put_end.ensures) (c.requires))

pub returns : goal.returns
unfolding integer text
returns c = laid_tail (marked _ (integer_text (integer_of c.args.z)) crlf c.args.out.now c.requires c.write_integer-at.ensures) c.put_end.ensures
