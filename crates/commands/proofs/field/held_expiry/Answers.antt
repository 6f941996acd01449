use Rattle.std.proofs.Common.{rules}
use Rattle.store.specs.Store.{decode}
use Rattle.wire.specs.Lists.{or_else}
use Rattle.commands.specs.Promises.{held_expiry}
use Rattle.commands.proofs.FieldDeeds.{said_of}
use Rattle.commands.proofs.field.held_expiry.Goals as goal

pub and_then-requires : goal.and_then-requires
and_then-requires c = λ x q. let h = c.requires x q in search rules

pub returns : goal.returns
unfolding held_expiry or_else
returns c = said_of (decode c.args.bytes.now).slots held_expiry c.args.found (search rules)
