use native.Mathlib.Omega.{arith}
use Rattle.commands.proofs.FieldDeeds.{may_count}
use Rattle.commands.proofs.KeyDone.{few_deleted, does_delete}
use Rattle.commands.proofs.FieldLoops.{each_word}
use Rattle.commands.proofs.key.delete.Goals as goal

pub put_number-requires : goal.put_number-requires
put_number-requires c = may_count _ (omega (arith, few_deleted _ c.sweep-hints.ensures.well c.remove_fields-n.ensures)) (omega (arith, c.requires.room))

pub returns : goal.returns
returns c = does_delete _ _ _ _ (rw each_word at c.sweep-hints.ensures) c.remove_fields-n.ensures c.put_number.ensures
