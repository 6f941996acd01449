use mathlib.Core.Path.{sym, ◌∙◌}
use borrow.Author.Tests.{ne_eqb}
use Rattle.wire.specs.Bytes.{part}
use Rattle.store.proofs.SlotChecks.{expiring_test, none_test, some_test}
use Rattle.store.proofs.check.expiry_well.Goals as goal

pub returns-then-instant-eq0 : goal.returns-then-instant-eq0
unfolding part
returns-then-instant-eq0 c = rw c.if-instant-eq0.true (sym (none_test c.args.t.now (sym c.read_le-instant.ensures ∙ c.if-instant-eq0.true)))

pub returns-then-t-eq-EXPIRING_STATE : goal.returns-then-t-eq-EXPIRING_STATE
unfolding part
returns-then-t-eq-EXPIRING_STATE c = rw c.read_le-instant.ensures (sym (expiring_test c.args.t.now c.if-t-eq-EXPIRING_STATE.true))

pub returns-else-t-eq-EXPIRING_STATE : goal.returns-else-t-eq-EXPIRING_STATE
unfolding part
returns-else-t-eq-EXPIRING_STATE c = ne_eqb _ 2 c.if-t-eq-EXPIRING_STATE.false ∙ sym (some_test c.args.t.now c.if-t-eq-EXPIRING_STATE.false (λ e. c.if-instant-eq0.false (c.read_le-instant.ensures ∙ e)))
