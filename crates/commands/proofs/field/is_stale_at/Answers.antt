use Rattle.std.proofs.Common.{rules}
use Rattle.store.specs.Store.{decode}
use Rattle.commands.specs.Effect.{is_stale}
use Rattle.commands.proofs.FieldDeeds.{said_of}
use Rattle.commands.proofs.VersionPlans.{stale_is, missing_fresh}
use Rattle.commands.proofs.field.is_stale_at.Goals as goal

pub is_some_and-requires : goal.is_some_and-requires
is_some_and-requires c = λ x q. let h = c.requires x q in search rules

pub returns : goal.returns
returns c = said_of (decode c.args.bytes.now).slots (is_stale c.args.versioning) c.args.found (search (rules, stale_is, missing_fresh))
