use Rattle.commands.specs.TablePromises.{option_table}
use Rattle.commands.proofs.TableRows.{tables, option_table_lem, option_number}
use Rattle.commands.proofs.table.option_named.Goals as goal

-- The bytes of the code are those of the definition, computed.
pub find-requires : goal.find-requires
unfolding tables option_table
find-requires c = option_table_lem

pub returns-in_err-i : goal.returns-in_err-i
unfolding tables option_table
returns-in_err-i c = rw (c.from_residual.ensures, ← c.find.ensures, c.in_err-i.was)

pub option_kind-requires : goal.option_kind-requires
unfolding tables option_table
option_kind-requires c = option_number _ c.find.ensures c.in_ok-i.i c.in_ok-i.was

pub returns : goal.returns
unfolding tables option_table
returns c = rw (← c.find.ensures, c.in_ok-i.was, c.option_kind.ensures)
