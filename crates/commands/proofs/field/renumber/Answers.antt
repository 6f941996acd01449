use Rattle.commands.proofs.FieldDeeds.{held_expiry_most, renumber_missing, renumber_done}
use Rattle.commands.proofs.field.renumber.Goals as goal

pub returns-in_default : goal.returns-in_default
returns-in_default c = renumber_missing c.requires c.args.version c.in_default.is

pub expiry-requires : goal.expiry-requires
expiry-requires c = c.requires.held _ c.in-Some.is

pub stamp-requires : goal.stamp-requires
stamp-requires c = (c.requires.held _ c.in-Some.is, held_expiry_most (c.requires.held _ c.in-Some.is) c.expiry.ensures)

pub returns : goal.returns
returns c = renumber_done c.requires c.in-Some.is c.args.version c.expiry.ensures c.stamp.ensures
