use Rattle.store.specs.Store.{decode}
use Rattle.commands.proofs.ExecuteDone.{field_requires, field_does}
use Rattle.commands.proofs.execute.run_on_field.Goals as goal

pub on_field-requires : goal.on_field-requires
on_field-requires c =
    (c.set_clock.ensures.well, field_requires c.args.deed c.word-key.ensures c.word-field.ensures c.word-value.ensures c.requires.1, c.requires.0.room)

pub returns : goal.returns
returns c =
    field_does c.args.deed c.word-key.ensures c.word-field.ensures c.word-value.ensures c.args.time (decode c.args.bytes.now) c.set_clock.ensures c.on_field.ensures
