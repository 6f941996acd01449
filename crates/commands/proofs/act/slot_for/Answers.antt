use Rattle.std.proofs.Common.{rules}
use Rattle.store.specs.Store.{decode}
use Rattle.commands.proofs.Acts.{slot_chosen}
use Rattle.commands.proofs.act.slot_for.Goals as goal

pub returns : goal.returns
returns c = slot_chosen c.args.time (decode c.args.bytes.now).slots c.args.own c.or_else.result (search rules) (search rules)
