use mathlib.Core.Path.{sym}
use borrow.Author.Tests.{not-true, not-false}
use Rattle.wire.proofs.ByteLaws.{bytes_intro}
use Rattle.store.proofs.StoreChecks.{size_wrong, header_inside, slots_inside, size_right}
use Rattle.store.proofs.check.well_formed.Goals as goal

pub returns-then-count-eq0 : goal.returns-then-count-eq0
returns-then-count-eq0 c = sym (size_wrong c.args.store.now c.slot_count-count.result c.slot_count-count.ensures c.if-count-eq0.true)

pub header_well-requires : goal.header_well-requires
header_well-requires c = header_inside c.args.store.now c.slot_count-count.result c.slot_count-count.ensures c.if-count-eq0.false

pub returns-then-not-header_well : goal.returns-then-not-header_well
returns-then-not-header_well c = rw (size_right c.args.store.now c.slot_count-count.result c.slot_count-count.ensures c.if-count-eq0.false (bytes_intro c.args.store.now (λ i. (c.type_inv.store i).fits)), ← c.header_well.ensures, not-true c.header_well.result c.if-not-header_well.true-raw)

pub well_with-requires-clause-count_in_bounds : goal.well_with-requires-clause-count_in_bounds
well_with-requires-clause-count_in_bounds c = slots_inside c.args.store.now c.slot_count-count.result c.slot_count-count.ensures c.if-count-eq0.false

pub returns-then-count-le-FEW_WORDS : goal.returns-then-count-le-FEW_WORDS
returns-then-count-le-FEW_WORDS c = rw (size_right c.args.store.now c.slot_count-count.result c.slot_count-count.ensures c.if-count-eq0.false (bytes_intro c.args.store.now (λ i. (c.type_inv.store i).fits)), ← c.header_well.ensures, not-false c.header_well.result c.if-not-header_well.false-raw) c.well_with.ensures

pub well_with-requires-2-clause-count_in_bounds : goal.well_with-requires-2-clause-count_in_bounds
well_with-requires-2-clause-count_in_bounds c = slots_inside c.args.store.now c.slot_count-count.result c.slot_count-count.ensures c.if-count-eq0.false

pub returns : goal.returns
returns c = rw (size_right c.args.store.now c.slot_count-count.result c.slot_count-count.ensures c.if-count-eq0.false (bytes_intro c.args.store.now (λ i. (c.type_inv.store i).fits)), ← c.header_well.ensures, not-false c.header_well.result c.if-not-header_well.false-raw) c.well_with-2.ensures
