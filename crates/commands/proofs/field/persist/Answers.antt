use Rattle.commands.proofs.FieldDeeds.{never_most, persist_missing, persist_never, persist_done}
use Rattle.commands.proofs.field.persist.Goals as goal

pub returns-in_default : goal.returns-in_default
returns-in_default c = persist_missing c.requires c.in_default.is

pub expiry-until-requires : goal.expiry-until-requires
expiry-until-requires c = c.requires.held _ c.in-Some.is

pub returns-in_default-until : goal.returns-in_default-until
returns-in_default-until c = persist_never c.requires c.in-Some.is c.expiry-until.ensures c.in_default-until.is

pub version-requires : goal.version-requires
version-requires c = c.requires.held _ c.in-Some.is

pub stamp-requires : goal.stamp-requires
stamp-requires c = (c.requires.held _ c.in-Some.is, never_most)

pub returns : goal.returns
returns c = persist_done c.requires c.in-Some.is c.expiry-until.ensures c.in-Some-until.is c.version.ensures c.stamp.ensures
