use mathlib.Core.Path.{sym, ◌∙◌}
use Rattle.commands.proofs.Acts.{found_slot}
use Rattle.commands.proofs.ListedSlots.{removes_nothing, removes_one}
use Rattle.commands.proofs.key.remove_field.Goals as goal

pub returns-in_default : goal.returns-in_default
returns-in_default c = removes_nothing _ _ _ c.requires c.named_near-found.ensures c.in_default.is

pub remove-requires : goal.remove-requires
remove-requires c = found_slot _ c.requires _ _ _ (sym c.in-Some.is ∙ c.named_near-found.ensures)

pub returns : goal.returns
returns c = removes_one _ _ _ c.requires c.named_near-found.ensures c.in-Some.is c.remove.ensures
