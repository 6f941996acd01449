use Rattle.std.specs.Prelude.{option_map}
use Rattle.std.proofs.Common.{rules}
use Rattle.wire.specs.Lists.{or_else}
use Rattle.wire.specs.Promises.{signed_for}
use Rattle.store.specs.Store.{decode}
use Rattle.commands.specs.Effect.{counted}
use Rattle.commands.proofs.FieldDeeds.{said_of}
use Rattle.commands.proofs.field.stored.Goals as goal

pub map_or-requires : goal.map_or-requires
map_or-requires c = λ x q. let h = c.requires x q in search rules

pub returns : goal.returns
unfolding counted or_else signed_for
returns c = said_of (decode c.args.bytes.now).slots (λ e. option_map signed_for (counted e)) c.args.found (search rules)
