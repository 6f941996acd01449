use mathlib.Core.Path.{refl}
use Rattle.commands.proofs.FieldLoops.{words_from}
use Rattle.commands.proofs.PairLoops.{pairs_from, next_pair, no_pair, writing_next, writing_on, writing_ends}
use borrow.Author.Rules.{rules}
use Rattle.commands.proofs.pairs.place_pairs.Goals as goal

pub loop-i-init : goal.loop-i-init
unfolding words_from pairs_from
loop-i-init c = (record { placing = c.requires; same = refl }, refl)

pub place_pair-requires : goal.place_pair-requires
place_pair-requires c = writing_next c.loop-i.invariant.0 (next_pair _ _ (rw c.len-i-end.ensures.value at c.loop-i-test.true) c.word-field.ensures c.word-value.ensures)

pub loop-i-preserved : goal.loop-i-preserved
loop-i-preserved c =
    (writing_on c.loop-i.invariant.0 (next_pair _ _ (rw c.len-i-end.ensures.value at c.loop-i-test.true) c.word-field.ensures c.word-value.ensures) c.place_pair.ensures, search rules)

pub returns : goal.returns
returns c = writing_ends c.loop-i.invariant.0 (no_pair _ _ (rw c.len-i-end.ensures.value at c.loop-i-test.false))
