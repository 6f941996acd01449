use mathlib.Core.Path.{refl, sym, ◌∙◌}
use native.Mathlib.Omega.{arith}
use Rattle.wire.proofs.ByteLaws.{bytes_intro}
use Rattle.store.proofs.Comparing.{start_most, word_most, searching_begins, searching_inside, searching_bytes, searching_slots, searching_skips, searching_ends, in_slot_begins, in_slot_size, in_slot_words, in_slot_key, in_slot_field, in_slot_few, in_slot_goes_on, in_slot_leaves, in_slot_finds}
use Rattle.store.proofs.find.search_within.Goals as goal

pub slots-init : goal.slots-init
slots-init c =
    (searching_begins c.args.key.now c.args.field.now c.args.store.now c.args.end c.args.from c.requires.store_value c.requires.end_in_bounds, refl)

pub bytes-t-requires : goal.bytes-t-requires
bytes-t-requires c = searching_inside c.slots.invariant.0 c.slots-test.true

pub new-requires : goal.new-requires
new-requires c = searching_bytes c.slots.invariant.0 c.slots-test.true c.bytes-t.ensures

pub overflow_step-i : goal.overflow_step-i
overflow_step-i c = omega (arith, c.slots-test.true, searching_slots c.slots.invariant.0)

pub slots-preserved-then-is_skipped : goal.slots-preserved-then-is_skipped
slots-preserved-then-is_skipped c =
    (searching_skips c.slots.invariant.0 c.slots-test.true c.bytes-t.ensures (sym (rw c.new.ensures at c.is_skipped.ensures) ∙ c.if-is_skipped.true), c.slots.invariant.1)

pub loop-w-init : goal.loop-w-init
loop-w-init c =
    let key = bytes_intro c.args.key.now (λ i. (c.type_inv.key i).fits) in
    let field = bytes_intro c.args.field.now (λ i. (c.type_inv.field i).fits) in
    let lengths = sym (rw c.new.ensures at c.is_skipped.ensures) ∙ c.if-is_skipped.false in
    (in_slot_begins c.slots.invariant.0 c.slots-test.true c.bytes-t.ensures key field c.requires.words_value lengths, refl)

pub word-held-requires : goal.word-held-requires
word-held-requires c = omega (arith, c.loop-w-test.true, in_slot_size c.loop-w.invariant.0)

pub bounds-words-w : goal.bounds-words-w
bounds-words-w c = omega (arith, c.loop-w-test.true, in_slot_words c.loop-w.invariant.0)

pub run_start-requires : goal.run_start-requires
run_start-requires c = (c.loop-w-test.true, in_slot_key c.loop-w.invariant.0)

pub overflow_add-compared : goal.overflow_add-compared
overflow_add-compared c =
    omega (arith, start_most c.loop-w-test.true (in_slot_key c.loop-w.invariant.0) c.run_start.ensures, word_most _ _ c.word_compared.ensures)

pub overflow_add-compared-then-held-named : goal.overflow_add-compared-then-held-named
overflow_add-compared-then-held-named c =
    let slot = c.loop-w.invariant.0 in let start = start_most c.loop-w-test.true (in_slot_key slot) c.run_start.ensures in
    omega (arith, start, word_most _ _ c.word_compared.ensures, in_slot_few slot)

pub overflow_step-i-then-held-named : goal.overflow_step-i-then-held-named
overflow_step-i-then-held-named c = let slot = c.loop-w.invariant.0 in omega (arith, slot.inside, searching_slots slot.searching)

pub slots-smaller : goal.slots-smaller
slots-smaller c = omega (arith, c.loop-w.invariant.0.inside, c.loop-w.invariant.1)

pub slots-preserved : goal.slots-preserved
slots-preserved c =
    let next = in_slot_leaves c.loop-w.invariant.0 c.loop-w-test.true c.word-held.ensures c.if-held-named.true in
    (next c.run_start.ensures c.word_compared.ensures, c.slots.invariant.1)

pub loop-w-preserved : goal.loop-w-preserved
loop-w-preserved c =
    (in_slot_goes_on c.loop-w.invariant.0 c.loop-w-test.true c.word-held.ensures c.if-held-named.false, c.loop-w.invariant.1)

pub overflow_add-compared-in-slots : goal.overflow_add-compared-in-slots
overflow_add-compared-in-slots c = omega (arith, in_slot_key c.loop-w.invariant.0, in_slot_field c.loop-w.invariant.0)

pub overflow_add-compared-in-slots-2 : goal.overflow_add-compared-in-slots-2
overflow_add-compared-in-slots-2 c = omega (arith, in_slot_key c.loop-w.invariant.0, in_slot_field c.loop-w.invariant.0, in_slot_few c.loop-w.invariant.0)

pub returns-after-slots : goal.returns-after-slots
returns-after-slots c = rw c.slots.invariant.1 (searching_ends c.slots.invariant.0 c.slots-test.false)

pub returns-after-loop-w : goal.returns-after-loop-w
returns-after-loop-w c = in_slot_finds c.loop-w.invariant.0 c.loop-w-test.false
