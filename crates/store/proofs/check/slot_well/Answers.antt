use mathlib.Core.Path.{sym, ◌∙◌}
use borrow.Author.Tests.{not-true, not-false}
use Rattle.store.proofs.SlotChecks.{well_empty, well_held}
use Rattle.store.proofs.check.slot_well.Goals as goal

pub returns-then-t-eq-EMPTY_STATE : goal.returns-then-t-eq-EMPTY_STATE
returns-then-t-eq-EMPTY_STATE c = c.all_zero.ensures ∙ sym (well_empty c.args.t.now c.if-t-eq-EMPTY_STATE.true)

pub returns-then-not-lengths_well : goal.returns-then-not-lengths_well
returns-then-not-lengths_well c = rw (well_held c.args.t.now c.if-t-eq-EMPTY_STATE.false, ← c.lengths_well.ensures, not-true c.lengths_well.result c.if-not-lengths_well.true-raw)

pub places_well-requires : goal.places_well-requires
places_well-requires c = sym c.lengths_well.ensures ∙ not-false c.lengths_well.result c.if-not-lengths_well.false-raw

pub returns-then-expiry_well : goal.returns-then-expiry_well
returns-then-expiry_well c = rw (well_held c.args.t.now c.if-t-eq-EMPTY_STATE.false, ← c.lengths_well.ensures, not-false c.lengths_well.result c.if-not-lengths_well.false-raw, ← c.expiry_well.ensures, c.if-expiry_well.true) c.places_well.ensures

pub returns-else-expiry_well : goal.returns-else-expiry_well
returns-else-expiry_well c = rw (well_held c.args.t.now c.if-t-eq-EMPTY_STATE.false, ← c.lengths_well.ensures, not-false c.lengths_well.result c.if-not-lengths_well.false-raw, ← c.expiry_well.ensures, c.if-expiry_well.false)
