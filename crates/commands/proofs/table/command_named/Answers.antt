use Rattle.commands.specs.TablePromises.{command_table}
use Rattle.commands.proofs.TableRows.{tables, command_table_lem, command_number, row_found, row_not_found}
use Rattle.commands.proofs.table.command_named.Goals as goal

-- The bytes of the code are those of the definition, computed.
pub find-requires : goal.find-requires
unfolding tables command_table
find-requires c = command_table_lem

pub returns-in_err-i : goal.returns-in_err-i
unfolding tables command_table
returns-in_err-i c = rw c.from_residual.ensures (row_not_found _ c.find.ensures c.in_err-i.was)

pub command_row-requires : goal.command_row-requires
unfolding tables command_table
command_row-requires c = command_number _ c.find.ensures c.in_ok-i.i c.in_ok-i.was

pub returns : goal.returns
unfolding tables command_table
returns c = row_found _ c.find.ensures c.in_ok-i.i c.in_ok-i.was _ c.command_row.ensures
