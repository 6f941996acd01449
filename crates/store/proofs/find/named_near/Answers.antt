use Rattle.store.proofs.Finding.{walk_counted, hint_finds}
use Rattle.store.proofs.find.named_near.Goals as goal

pub of-requires : goal.of-requires
of-requires c = walk_counted (record { well = c.requires; slots = c.slots.ensures }) c.if-slots-hint.false

pub holds_with-requires : goal.holds_with-requires
holds_with-requires c = c.fingerprint_of-fingerprint.ensures

pub returns-then-holds_with : goal.returns-then-holds_with
returns-then-holds_with c =
    hint_finds c.args.key.now c.args.field.now (record { well = c.requires; slots = c.slots.ensures }) c.if-slots-hint.false c.of.ensures c.holds_with.ensures c.if-holds_with.true
