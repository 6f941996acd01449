use mathlib.Core.Path.{◌∙◌}
use mathlib.Core.Bool.{beq}
use borrow.Author.Tests.{not-true, not-false}
use Rattle.wire.proofs.IntegerSigns.{signs_same, signs_other, le_first, le_second, le_never, le_minus, le_plain}
use Rattle.wire.proofs.integers.at_most.Goals as goal

-- Each return is one law of signs and magnitudes.
pub returns-then-a : goal.returns-then-a
returns-then-a c = c.if-a.true ∙ le_first c.args.a c.args.b (signs_other c.args.a.negative c.args.b.negative (not-true (beq c.args.a.negative c.args.b.negative) c.if-a-b.true)) c.if-a.true

pub returns-then-a-eq0 : goal.returns-then-a-eq0
returns-then-a-eq0 c = le_second c.args.a c.args.b (signs_other c.args.a.negative c.args.b.negative (not-true (beq c.args.a.negative c.args.b.negative) c.if-a-b.true)) c.if-a.false c.if-a-eq0.true

pub returns-else-a-eq0 : goal.returns-else-a-eq0
returns-else-a-eq0 c = le_never c.args.a c.args.b (signs_other c.args.a.negative c.args.b.negative (not-true (beq c.args.a.negative c.args.b.negative) c.if-a-b.true)) c.if-a.false c.if-a-eq0.false

pub returns-then-a-2 : goal.returns-then-a-2
returns-then-a-2 c = le_minus c.args.a c.args.b (signs_same c.args.a.negative c.args.b.negative (not-false (beq c.args.a.negative c.args.b.negative) c.if-a-b.false)) c.if-a-2.true

pub returns : goal.returns
returns c = le_plain c.args.a c.args.b (signs_same c.args.a.negative c.args.b.negative (not-false (beq c.args.a.negative c.args.b.negative) c.if-a-b.false)) c.if-a-2.false
