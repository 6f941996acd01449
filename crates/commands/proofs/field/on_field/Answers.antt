use Rattle.store.specs.Store.{decode}
use Rattle.commands.proofs.OneField.{reply_room, looked_sought, still_sought, field_settled}
use Rattle.commands.proofs.field.on_field.Goals as goal

pub settle_deed-settled-requires : goal.settle_deed-settled-requires
settle_deed-settled-requires c = let look = c.look-found.ensures in (looked_sought look.0 look.1, c.requires.1)

pub put_settled-requires : goal.put_settled-requires
put_settled-requires c =
    let look = c.look-found.ensures in let settle-deed = c.settle_deed-settled.ensures in (settle-deed.told, (λ q e. still_sought (looked_sought look.0 look.1) (settle-deed.asked q e)), reply_room c.requires.2)

pub returns : goal.returns
returns c =
    field_settled c.args.time c.args.key.now c.args.field.now c.args.value.now c.args.deed (decode c.args.bytes.now) c.look-found.ensures.0 c.settle_deed-settled.ensures c.put_settled.ensures
