use Rattle.wire.specs.Promises.{integer_of}
use Rattle.wire.proofs.IntegerSigns.{answer_zero, answer_minus, answer_plain, answer_below, answer_above}
use Rattle.wire.proofs.integers.bounded.Goals as goal

-- Each return is one law of sign and magnitude.
pub returns-then-magnitude-eq0 : goal.returns-then-magnitude-eq0
unfolding integer_of
returns-then-magnitude-eq0 c = answer_zero c.args.negative c.args.magnitude c.if-magnitude-eq0.true

pub returns-then-magnitude-gt-LOWEST : goal.returns-then-magnitude-gt-LOWEST
unfolding integer_of
returns-then-magnitude-gt-LOWEST c = rw c.if-negative.true (answer_below c.args.magnitude c.if-magnitude-gt-LOWEST.true)

pub returns-then-negative : goal.returns-then-negative
unfolding integer_of
returns-then-negative c = rw c.if-negative.true (answer_minus c.args.magnitude c.if-magnitude-eq0.false c.if-magnitude-gt-LOWEST.false)

pub returns-then-magnitude : goal.returns-then-magnitude
unfolding integer_of
returns-then-magnitude c = rw c.if-negative.false (answer_above c.args.magnitude c.if-magnitude.true)

pub returns : goal.returns
unfolding integer_of
returns c = rw c.if-negative.false (answer_plain c.args.magnitude c.if-magnitude.false)
