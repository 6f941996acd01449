use Rattle.commands.proofs.FieldDeeds.{stamp_passes, stamp_done}
use Rattle.commands.proofs.field.stamp.Goals as goal

pub returns-then-version-gt-VERSION_MOST : goal.returns-then-version-gt-VERSION_MOST
returns-then-version-gt-VERSION_MOST c = stamp_passes c.requires.0 c.args.expiry c.if-version-gt-VERSION_MOST.true

pub returns : goal.returns
returns c = stamp_done c.requires.0 c.args.expiry c.if-version-gt-VERSION_MOST.false c.restamp.ensures
