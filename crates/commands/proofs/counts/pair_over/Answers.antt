use mathlib.Core.Path.{refl, sym}
use Rattle.commands.specs.ParsePromises.{pair_over}
use Rattle.commands.proofs.CountTallies.{pair_field, pair_value, pair_on, pair_ends}
use Rattle.commands.proofs.counts.pair_over.Goals as goal

pub loop-i-init : goal.loop-i-init
unfolding pair_over
loop-i-init c = refl

pub returns-then-word-gt-FIELD_MOST : goal.returns-then-word-gt-FIELD_MOST
returns-then-word-gt-FIELD_MOST c = pair_field _ (sym c.len-i-end.ensures.value) c.loop-i.i c.loop-i.invariant c.loop-i-test.true c.word.ensures c.if-word-gt-FIELD_MOST.true

pub returns-then-word-gt-VALUE_MOST : goal.returns-then-word-gt-VALUE_MOST
returns-then-word-gt-VALUE_MOST c = pair_value _ (sym c.len-i-end.ensures.value) c.loop-i.i c.loop-i.invariant c.loop-i-test.true c.word.ensures c.if-word-gt-FIELD_MOST.false c.word-in-loop-i.ensures c.if-word-gt-VALUE_MOST.true

pub loop-i-preserved : goal.loop-i-preserved
loop-i-preserved c = pair_on _ (sym c.len-i-end.ensures.value) c.loop-i.i c.loop-i.invariant c.loop-i-test.true c.word.ensures c.if-word-gt-FIELD_MOST.false c.word-in-loop-i.ensures c.if-word-gt-VALUE_MOST.false

pub returns : goal.returns
returns c = pair_ends _ (sym c.len-i-end.ensures.value) c.loop-i.i c.loop-i.invariant c.loop-i-test.false
