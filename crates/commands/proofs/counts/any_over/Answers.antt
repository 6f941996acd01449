use mathlib.Core.Path.{refl, sym}
use Rattle.commands.specs.ParsePromises.{any_over}
use Rattle.commands.proofs.CountTallies.{over_found, over_on, over_ends}
use Rattle.commands.proofs.counts.any_over.Goals as goal

pub loop-i-init : goal.loop-i-init
unfolding any_over
loop-i-init c = refl

pub returns-then-word-gt-FIELD_MOST : goal.returns-then-word-gt-FIELD_MOST
returns-then-word-gt-FIELD_MOST c = over_found _ (sym c.len-i-end.ensures.value) c.loop-i.i c.loop-i.invariant c.loop-i-test.true c.word.ensures c.if-word-gt-FIELD_MOST.true

pub loop-i-preserved : goal.loop-i-preserved
loop-i-preserved c = over_on _ (sym c.len-i-end.ensures.value) c.loop-i.i c.loop-i.invariant c.loop-i-test.true c.word.ensures c.if-word-gt-FIELD_MOST.false

pub returns : goal.returns
returns c = over_ends _ (sym c.len-i-end.ensures.value) c.loop-i.i c.loop-i.invariant c.loop-i-test.false
