use mathlib.Core.Path.{refl}
use native.Mathlib.Omega.{arith}
use Rattle.store.specs.Store.{decode}
use Rattle.commands.specs.Promises.{fields_in}
use Rattle.commands.proofs.FieldDeeds.{sought_held, held_at_most}
use Rattle.commands.proofs.FieldLoops.{words_from}
use Rattle.commands.proofs.PairLoops.{named_from, next_named, none_named_lem, few_fields, times_few, telling_is, version_sought, Surveying, surveying_few, surveying_ends, surveying_on, survey_passes}
use Rattle.commands.proofs.pairs.survey_pairs.Goals as goal

pub loop-i-init : goal.loop-i-init
unfolding words_from named_from
loop-i-init c =
    let now : Surveying c.args.key.now (fields_in c.args.pairs.now) (named_from c.args.pairs.now 0) (decode c.args.bytes.now).slots 0 = record { sum = omega arith; same = refl } in
    (now, survey_passes _ _ _ _ c.requires now)

pub held_version-held-requires : goal.held_version-held-requires
held_version-held-requires c = sought_held (record { well = c.requires; looked = c.named_near-found.ensures })

pub relevant_repeats-again-requires : goal.relevant_repeats-again-requires
relevant_repeats-again-requires c = rw c.len-i-end.ensures.value at c.loop-i-test.true

pub overflow_add-again : goal.overflow_add-again
overflow_add-again c =
    omega (arith, c.relevant_repeats-again.ensures.most, times_few c.args.pairs.now c.loop-i.i)

pub overflow_add-held : goal.overflow_add-held
overflow_add-held c =
    omega (arith, c.relevant_repeats-again.ensures.most, times_few c.args.pairs.now c.loop-i.i, held_at_most (sought_held (record { well = c.requires; looked = c.named_near-found.ensures })) c.held_version-held.ensures)

pub overflow_add-n : goal.overflow_add-n
overflow_add-n c =
    let next = next_named _ _ (rw c.len-i-end.ensures.value at c.loop-i-test.true) c.word.ensures in
    let held = version_sought (record { well = c.requires; looked = c.named_near-found.ensures }) c.held_version-held.ensures in
    let again = telling_is _ _ c.word.ensures c.relevant_repeats-again.ensures in
    omega (arith, surveying_few (surveying_on c.loop-i.invariant.0 next held again (omega arith) c.named_near-found.ensures c.new_field-n.ensures), few_fields c.args.pairs.now)

pub loop-i-preserved : goal.loop-i-preserved
loop-i-preserved c =
    let next = next_named _ _ (rw c.len-i-end.ensures.value at c.loop-i-test.true) c.word.ensures in
    let held = version_sought (record { well = c.requires; looked = c.named_near-found.ensures }) c.held_version-held.ensures in
    let again = telling_is _ _ c.word.ensures c.relevant_repeats-again.ensures in
    let now = surveying_on c.loop-i.invariant.0 next held again (omega arith) c.named_near-found.ensures c.new_field-n.ensures in
    (now, survey_passes _ _ _ _ c.requires now)

pub returns : goal.returns
returns c = surveying_ends c.loop-i.invariant.0 (none_named_lem _ _ (rw c.len-i-end.ensures.value at c.loop-i-test.false))
