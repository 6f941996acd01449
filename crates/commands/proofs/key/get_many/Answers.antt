use mathlib.Core.Path.{sym}
use native.Mathlib.Omega.{arith}
use Rattle.wire.proofs.ReplyLaying.{laid_tail, laid_within}
use Rattle.commands.specs.Promises.{answer_most}
use Rattle.commands.proofs.Answers.{laid_reply}
use Rattle.wire.proofs.Elements.{tail_spare}
use Rattle.commands.proofs.FieldLoops.{each_word, header_room, header_inside, answers_begin, answers_spare, answers_room}
use Rattle.commands.proofs.KeyDone.{does_many}
use Rattle.commands.proofs.key.get_many.Goals as goal

pub put_header-at-requires : goal.put_header-at-requires
put_header-at-requires c = header_room (omega (arith, c.requires.few)) c.requires.room

pub slice_bounds-put_answers-count : goal.slice_bounds-put_answers-count
slice_bounds-put_answers-count c = header_inside (omega (arith, c.requires.few)) c.requires.room c.put_header-at.ensures

pub slice_bounds-put_answers-start : goal.slice_bounds-put_answers-start
slice_bounds-put_answers-start c = header_inside (omega (arith, c.requires.few)) c.requires.room c.put_header-at.ensures

pub put_answers-requires : goal.put_answers-requires
put_answers-requires c =
    (c.sweep-hints.ensures.well, tail_spare answer_most _ (rw c.len.ensures.value at c.put_header-at.ensures) (answers_spare c.args.time _ c.args.key.now c.args.question c.args.fields.now c.sweep-hints.ensures.well c.requires.few c.requires.room))

pub overflow_add-result : goal.overflow_add-result
overflow_add-result c =
    omega (arith, laid_within (laid_tail (rw c.len.ensures.value at c.put_header-at.ensures) c.put_answers.ensures) (answers_room c.args.time _ c.args.key.now c.args.question c.args.fields.now c.sweep-hints.ensures.well c.requires.few c.requires.room))

pub returns : goal.returns
returns c = does_many _ _ _ _ _ (rw each_word at c.sweep-hints.ensures) (laid_reply (sym (answers_begin _ _)) (laid_tail (rw c.len.ensures.value at c.put_header-at.ensures) c.put_answers.ensures))
