use Rattle.commands.proofs.FieldDeeds.{held_version_most, at_most, expire_missing, expire_stale, expire_done}
use Rattle.commands.proofs.field.expire.Goals as goal

pub returns-in_default : goal.returns-in_default
returns-in_default c = expire_missing c.requires.0 c.args.instant c.args.versioning c.in_default.is

pub version-held-requires : goal.version-held-requires
version-held-requires c = c.requires.0.held _ c.in-Some.is

pub returns-then-is_stale : goal.returns-then-is_stale
returns-then-is_stale c = expire_stale c.requires.0 c.in-Some.is c.args.instant c.args.versioning c.version-held.ensures c.is_stale.ensures c.if-is_stale.true

pub setter_version-version-requires : goal.setter_version-version-requires
setter_version-version-requires c = held_version_most (c.requires.0.held _ c.in-Some.is) c.version-held.ensures

pub stamp-requires : goal.stamp-requires
stamp-requires c = (c.requires.0.held _ c.in-Some.is, at_most c.requires.1)

pub returns : goal.returns
returns c =
    expire_done c.requires.0 c.in-Some.is c.args.instant c.args.versioning c.version-held.ensures c.is_stale.ensures c.if-is_stale.false c.setter_version-version.ensures c.stamp.ensures
