use Rattle.std.proofs.Common.{rules}
use Rattle.store.specs.Store.{decode}
use Rattle.wire.specs.Lists.{or_else}
use Rattle.commands.specs.Promises.{held_version}
use Rattle.commands.proofs.FieldDeeds.{said_of}
use Rattle.commands.proofs.field.held_version.Goals as goal

pub map_or-requires : goal.map_or-requires
map_or-requires c = λ x q. let h = c.requires x q in search rules

pub returns : goal.returns
unfolding held_version or_else
returns c = said_of (decode c.args.bytes.now).slots held_version c.args.found (search rules)
