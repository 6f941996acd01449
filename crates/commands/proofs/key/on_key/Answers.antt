use native.Mathlib.Omega.{arith}
use Rattle.commands.specs.ParsePromises.{command_for}
use Rattle.commands.proofs.FieldDeeds.{may_count}
use Rattle.commands.proofs.KeyDone.{does_deed, deed_within, does_held, does_live, does_list, few_counted}
use Rattle.commands.proofs.key.on_key.Goals as goal

pub set_many-requires : goal.set_many-requires
unfolding command_for
set_many-requires c = (c.requires.0, deed_within _ _ c.in-SetMany.is c.requires.1)

pub put_number-requires : goal.put_number-requires
put_number-requires c = may_count _ (omega (arith, few_counted _ _ c.requires.0.well c.count_held.ensures)) (omega (arith, c.requires.0.room))

pub put_number-requires-in-CountLive : goal.put_number-requires-in-CountLive
put_number-requires-in-CountLive c = may_count _ (omega (arith, few_counted _ _ c.requires.0.well c.count_live.ensures)) (omega (arith, c.requires.0.room))

pub returns-in-SetMany : goal.returns-in-SetMany
unfolding command_for
returns-in-SetMany c = does_deed _ _ c.in-SetMany.is _ _ c.set_many.ensures

pub returns-in-GetMany : goal.returns-in-GetMany
unfolding command_for
returns-in-GetMany c = does_deed _ _ c.in-GetMany.is _ _ c.get_many.ensures

pub returns-in-Delete : goal.returns-in-Delete
unfolding command_for
returns-in-Delete c = does_deed _ _ c.in-Delete.is _ _ c.delete.ensures

pub returns-in-CountHeld : goal.returns-in-CountHeld
unfolding command_for
returns-in-CountHeld c = does_deed _ _ c.in-CountHeld.is _ _ (does_held _ _ _ c.requires.0.well c.count_held.ensures c.put_number.ensures)

pub returns-in-CountLive : goal.returns-in-CountLive
unfolding command_for
returns-in-CountLive c = does_deed _ _ c.in-CountLive.is _ _ (does_live _ _ _ c.requires.0.well c.count_live.ensures c.put_number-in-CountLive.ensures)

pub returns-in-List : goal.returns-in-List
unfolding command_for
returns-in-List c = does_deed _ _ c.in-List.is _ _ (does_list _ _ _ c.requires.0.well _ c.put_list.ensures)
