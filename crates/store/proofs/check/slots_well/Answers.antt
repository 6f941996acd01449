use mathlib.Core.Path.{refl, sym, ◌∙◌}
use native.Mathlib.Omega.{arith}
use borrow.Author.Tests.{not-true, not-false}
use Rattle.wire.proofs.ByteLaws.{bytes_intro}
use Rattle.store.proofs.BloomFilter.{sift_begins, sift_wrong, sift_turn, sift_fails, sift_goes_on, sift_ends}
use Rattle.store.proofs.check.slots_well.Goals as goal

pub loop-i-init : goal.loop-i-init
loop-i-init c = (refl, sift_begins _ _ _ c.requires.filter_size c.requires.count_in_bounds (bytes_intro c.args.store.now (λ j. (c.type_inv.store j).fits)))

pub bytes-requires : goal.bytes-requires
bytes-requires c = omega (arith, c.requires.count_in_bounds, c.loop-i.invariant.1.inside)

pub shape_of-filter-then-not-slot_well : goal.shape_of-filter-then-not-slot_well
shape_of-filter-then-not-slot_well c = c.loop-i.invariant.0

pub returns-then-not-slot_well : goal.returns-then-not-slot_well
returns-then-not-slot_well c = sym (sift_wrong _ _ _ _ c.loop-i.invariant.1 c.loop-i-test.true (sym (rw c.bytes.ensures at c.slot_well.ensures) ∙ not-true c.slot_well.result c.if-not-slot_well.true-raw))

pub repeats-requires : goal.repeats-requires
repeats-requires c = sift_turn _ _ _ _ c.loop-i.invariant.1 c.loop-i-test.true (sym (rw c.bytes.ensures at c.slot_well.ensures) ∙ not-false c.slot_well.result c.if-not-slot_well.false-raw)

pub shape_of-filter-then-repeats : goal.shape_of-filter-then-repeats
shape_of-filter-then-repeats c = c.repeats.auto.filter ∙ c.loop-i.invariant.0

pub returns-then-repeats : goal.returns-then-repeats
returns-then-repeats c = sym (sift_fails _ _ _ _ c.loop-i.invariant.1 c.loop-i-test.true (sym (rw c.bytes.ensures at c.slot_well.ensures) ∙ not-false c.slot_well.result c.if-not-slot_well.false-raw) _ _ c.repeats.ensures c.if-repeats.true)

pub loop-i-preserved : goal.loop-i-preserved
loop-i-preserved c = (c.repeats.auto.filter ∙ c.loop-i.invariant.0, sift_goes_on _ _ _ _ c.loop-i.invariant.1 c.loop-i-test.true (sym (rw c.bytes.ensures at c.slot_well.ensures) ∙ not-false c.slot_well.result c.if-not-slot_well.false-raw) _ _ c.repeats.ensures c.if-repeats.false)

pub shape_of-filter : goal.shape_of-filter
shape_of-filter c = c.loop-i.invariant.0

pub returns : goal.returns
returns c = sym (sift_ends _ _ _ _ c.loop-i.invariant.1 c.loop-i-test.false)
