use mathlib.Core.Path.{refl}
use native.Mathlib.Omega.{arith}
use Rattle.commands.proofs.FieldLoops.{deleting_begins, deleting_few, deleting_on, deleting_ends, words_from, next_word, no_word}
use borrow.Author.Rules.{rules}
use Rattle.commands.proofs.key.remove_fields.Goals as goal

pub loop-i-init : goal.loop-i-init
unfolding words_from
loop-i-init c = (deleting_begins c.requires, refl)

pub overflow_add-n : goal.overflow_add-n
overflow_add-n c = omega (arith, deleting_few (deleting_on c.loop-i.invariant.0 (next_word _ _ (rw c.len-i-end.ensures.value at c.loop-i-test.true) c.word.ensures) c.remove_field-n.ensures) c.requires)

pub loop-i-preserved : goal.loop-i-preserved
loop-i-preserved c = (deleting_on c.loop-i.invariant.0 (next_word _ _ (rw c.len-i-end.ensures.value at c.loop-i-test.true) c.word.ensures) c.remove_field-n.ensures, search rules)

pub returns : goal.returns
returns c = deleting_ends c.loop-i.invariant.0 (no_word _ _ (rw c.len-i-end.ensures.value at c.loop-i-test.false))
