use mathlib.Core.Path.{refl}
use native.Mathlib.Omega.{arith}
use Rattle.wire.proofs.ReplyLaying.{laid_none}
use Rattle.commands.specs.Promises.{answer_most}
use Rattle.wire.proofs.Elements.{going_begins, going_on_lem, going_within, going_ends, going_length, going_start, going_spare}
use Rattle.commands.proofs.FieldLoops.{words_from, answers_from, answers_next, answers_over}
use Rattle.commands.proofs.key.put_answers.Goals as goal

pub loop-i-init : goal.loop-i-init
unfolding words_from answers_from
loop-i-init c = going_begins (laid_none _) refl (omega (arith, c.requires.1))

pub slice_bounds-put_field-count : goal.slice_bounds-put_field-count
slice_bounds-put_field-count c = going_start c.loop-i.invariant

pub slice_bounds-put_field-start : goal.slice_bounds-put_field-start
slice_bounds-put_field-start c = going_start c.loop-i.invariant

pub put_field-at-requires : goal.put_field-at-requires
put_field-at-requires c = (c.requires.0, going_spare c.loop-i.invariant answer_most c.requires.1)

pub overflow_add-at : goal.overflow_add-at
overflow_add-at c = omega (arith, going_within c.loop-i.invariant (answers_next _ _ _ (rw c.len-i-end.ensures.value at c.loop-i-test.true) c.word-field.ensures) c.put_field-at.ensures)

pub loop-i-preserved : goal.loop-i-preserved
loop-i-preserved c = going_on_lem c.loop-i.invariant (answers_next _ _ _ (rw c.len-i-end.ensures.value at c.loop-i-test.true) c.word-field.ensures) c.put_field-at.ensures

pub shape_of-out : goal.shape_of-out
shape_of-out c = going_length c.loop-i.invariant

pub returns : goal.returns
returns c = going_ends c.loop-i.invariant (answers_over _ _ _ (rw c.len-i-end.ensures.value at c.loop-i-test.false))
