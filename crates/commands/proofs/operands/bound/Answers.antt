use Rattle.commands.proofs.OperandWords.{bound_none, bound_read}
use Rattle.commands.proofs.operands.bound.Goals as goal

pub returns-in-Some : goal.returns-in-Some
returns-in-Some c = bound_read c.args.unbounded _ c.in-Some.is (rw c.word.ensures at c.read_integer.ensures)

pub returns-in-None : goal.returns-in-None
returns-in-None c = bound_none c.args.unbounded _ c.in-None.is
