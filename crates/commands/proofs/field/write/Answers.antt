use Rattle.wire.proofs.ByteLaws.{bytes_intro}
use Rattle.commands.proofs.Handing.{handed_none}
use Rattle.commands.proofs.FieldDeeds.{sought_held, held_at_most, write_passes, write_full, write_may, write_done}
use Rattle.commands.proofs.field.write.Goals as goal

pub held_version-held-requires : goal.held_version-held-requires
held_version-held-requires c = sought_held c.requires.0

pub next_version-version-requires : goal.next_version-version-requires
next_version-version-requires c = held_at_most (sought_held c.requires.0) c.held_version-held.ensures

pub returns-then-version-gt-VERSION_MOST : goal.returns-then-version-gt-VERSION_MOST
returns-then-version-gt-VERSION_MOST c = write_passes c.args.sight.time c.args.stamping c.args.value.now c.requires.0 c.held_version-held.ensures c.next_version-version.ensures c.if-version-gt-VERSION_MOST.true

pub returns-in_err-i : goal.returns-in_err-i
returns-in_err-i c =
    let no = c.in_err-i.ensures in
    rw (handed_none c.from_residual.result c.from_residual.ensures.1 _ no.value)
    (write_full c.args.sight.time c.args.stamping c.args.value.now c.requires.0 c.held_version-held.ensures c.next_version-version.ensures c.if-version-gt-VERSION_MOST.false c.slot_for.ensures no.ok_part)

pub held_expiry-until-requires : goal.held_expiry-until-requires
held_expiry-until-requires c = sought_held c.requires.0

pub put-requires : goal.put-requires
put-requires c =
    write_may c.args.sight.time c.args.stamping c.args.value.now c.requires.0 c.held_version-held.ensures c.next_version-version.ensures c.if-version-gt-VERSION_MOST.false c.slot_for.ensures c.in_ok-i.ensures.ok_part c.held_expiry-until.ensures c.next_expiry-expiry.ensures c.requires.1 (bytes_intro c.args.key.now (λ j. (c.type_inv.key j).fits)) (bytes_intro c.args.field.now (λ j. (c.type_inv.field j).fits)) (bytes_intro c.args.value.now (λ j. (c.type_inv.value j).fits))

pub returns : goal.returns
returns c =
    write_done c.args.sight.time c.args.stamping c.args.value.now c.requires.0 c.held_version-held.ensures c.next_version-version.ensures c.if-version-gt-VERSION_MOST.false c.slot_for.ensures c.in_ok-i.ensures.ok_part c.held_expiry-until.ensures c.next_expiry-expiry.ensures c.put.ensures
