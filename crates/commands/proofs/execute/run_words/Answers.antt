use mathlib.Core.Path.{ap, ◌∙◌}
use Rattle.std.specs.Prelude.{Ok}
use Rattle.commands.proofs.FieldDeeds.{may_refuse}
use Rattle.commands.proofs.OneField.{reply_room}
use Rattle.commands.proofs.ExecuteDone.{now_soon, refusal_done, field_opened, field_limits, field_done, key_opened, key_words, key_limits, key_done}
use Rattle.commands.proofs.execute.run_words.Goals as goal

pub parse-parsed-requires : goal.parse-parsed-requires
parse-parsed-requires c = (now_soon c.args.clock c.args.store.now c.requires.store_value.0 c.now_at-time.ensures)

pub put_error-requires : goal.put_error-requires
put_error-requires c = may_refuse _ (reply_room c.requires.store_value.1)

pub run_on_field-requires : goal.run_on_field-requires
run_on_field-requires c =
    let said = c.in-Ok-OnField.is ∙ ap Ok (rw c.in-Ok-OnField.is at c.in-Ok-OnField.field-0-is) in
    let now-at = c.now_at-time.ensures in
    let parse = c.parse-parsed.ensures c.args.command.now (rw (← c.new-words.ensures) at c.requires.command_value.1) in
    (field_opened c.args.clock c.args.command.now c.args.store.now c.requires.store_value.0 _ now-at parse said c.requires.store_value.1, field_limits c.args.clock c.args.command.now c.args.store.now c.requires.store_value.0 _ now-at parse said)

pub run_on_key-requires : goal.run_on_key-requires
run_on_key-requires c =
    let said = c.in-Ok-OnKey.is ∙ ap Ok (rw c.in-Ok-OnKey.is at c.in-Ok-OnKey.field-0-is) in
    let now-at = c.now_at-time.ensures in
    let parse = c.parse-parsed.ensures c.args.command.now (rw (← c.new-words.ensures) at c.requires.command_value.1) in
    (key_words c.args.clock c.args.command.now c.args.store.now c.requires.store_value.0 _ now-at parse said (rw (← c.new-words.ensures) at c.requires.command_value.1), key_opened c.args.clock c.args.command.now c.args.store.now c.requires.store_value.0 _ now-at parse said c.requires.store_value.1, key_limits c.args.clock c.args.command.now c.args.store.now c.requires.store_value.0 _ now-at parse said)

pub returns-in-Err : goal.returns-in-Err
returns-in-Err c =
    refusal_done c.args.clock c.args.command.now c.args.store.now c.requires.store_value.0 _ c.now_at-time.ensures (c.parse-parsed.ensures c.args.command.now (rw (← c.new-words.ensures) at c.requires.command_value.1)) c.in-Err.is c.put_error.ensures

pub returns-in-Ok-OnField : goal.returns-in-Ok-OnField
returns-in-Ok-OnField c =
    let said = c.in-Ok-OnField.is ∙ ap Ok (rw c.in-Ok-OnField.is at c.in-Ok-OnField.field-0-is) in
    field_done c.args.clock c.args.command.now c.args.store.now c.requires.store_value.0 _ c.now_at-time.ensures (c.parse-parsed.ensures c.args.command.now (rw (← c.new-words.ensures) at c.requires.command_value.1)) said c.run_on_field.ensures

pub returns-in-Ok-OnKey : goal.returns-in-Ok-OnKey
returns-in-Ok-OnKey c =
    let said = c.in-Ok-OnKey.is ∙ ap Ok (rw c.in-Ok-OnKey.is at c.in-Ok-OnKey.field-0-is) in
    key_done c.args.clock c.args.command.now c.args.store.now c.requires.store_value.0 _ c.now_at-time.ensures (c.parse-parsed.ensures c.args.command.now (rw (← c.new-words.ensures) at c.requires.command_value.1)) said c.run_on_key.ensures
