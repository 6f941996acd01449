use mathlib.Core.Path.{◌∙◌}
use native.Mathlib.Omega.{arith}
use Rattle.wire.proofs.IntegerSigns.{integer_empty, plain_value, plain_refused, minus_refused}
use Rattle.wire.proofs.integers.read_integer.Goals as goal

-- With no minus a text is read as a number, and else what follows it. The laws say each return of what `read_natural` answered.
pub returns-then-is_empty : goal.returns-then-is_empty
returns-then-is_empty c = integer_empty c.args.s.now (grind arith)

pub returns-then-s-ne45 : goal.returns-then-s-ne45
returns-then-s-ne45 c = plain_value c.args.s.now c.read_natural.ensures c.if-s-ne45.true c.in_ok-magnitude.magnitude c.in_ok-magnitude.was

pub returns-in_err-magnitude : goal.returns-in_err-magnitude
returns-in_err-magnitude c = c.from_residual.ensures ∙ plain_refused c.args.s.now c.read_natural.ensures c.if-s-ne45.true c.in_err-magnitude.was

pub returns-in_err-n : goal.returns-in_err-n
returns-in_err-n c = c.from_residual-in_err-n.ensures ∙ minus_refused c.args.s.now c.read_natural-2.ensures (grind arith) c.if-s-ne45.false c.in_err-n.was
