use Rattle.commands.proofs.FieldDeeds.{sought_found}
use Rattle.commands.proofs.OneField.{limits_assign, limits_increment, limits_expire, settled_barred, settled_assign, settled_increment, settled_expire, settled_persist, settled_renumber, settled_ask}
use Rattle.commands.proofs.field.settle_deed.Goals as goal

pub returns-then-is_barred : goal.returns-then-is_barred
returns-then-is_barred c = settled_barred c.args.sight.time c.args.value.now c.requires.0 c.args.deed c.in-Assign.is c.is_barred.ensures c.if-is_barred.true

pub assign-requires : goal.assign-requires
assign-requires c = (c.requires.0, limits_assign c.args.value.now c.requires.1 c.in-Assign.is)

pub increment-requires : goal.increment-requires
increment-requires c = (c.requires.0, limits_increment c.args.value.now c.requires.1 c.in-Increment.is)

pub expire-requires : goal.expire-requires
expire-requires c = (sought_found c.requires.0, limits_expire c.args.value.now c.requires.1 c.in-Expire.is)

pub persist-requires : goal.persist-requires
persist-requires c = sought_found c.requires.0

pub renumber-requires : goal.renumber-requires
renumber-requires c = sought_found c.requires.0

pub returns-else-is_barred : goal.returns-else-is_barred
returns-else-is_barred c =
    settled_assign c.args.sight.time c.args.value.now c.requires.0 c.args.deed c.in-Assign.is c.is_barred.ensures c.if-is_barred.false c.assign.ensures

pub returns-in-Increment : goal.returns-in-Increment
returns-in-Increment c =
    settled_increment c.args.sight.time c.args.value.now c.requires.0 c.args.deed c.in-Increment.is c.increment.ensures

pub returns-in-Expire : goal.returns-in-Expire
returns-in-Expire c =
    settled_expire c.args.sight.time c.args.value.now c.requires.0 c.args.deed c.in-Expire.is c.expire.ensures

pub returns-in-Persist : goal.returns-in-Persist
returns-in-Persist c = settled_persist c.args.sight.time c.args.value.now c.requires.0 c.args.deed c.in-Persist.is c.persist.ensures

pub returns-in-Renumber : goal.returns-in-Renumber
returns-in-Renumber c =
    settled_renumber c.args.sight.time c.args.value.now c.requires.0 c.args.deed c.in-Renumber.is c.renumber.ensures

pub returns-in-Ask : goal.returns-in-Ask
returns-in-Ask c = settled_ask c.args.sight.time c.args.value.now c.requires.0 c.args.deed c.in-Ask.is
