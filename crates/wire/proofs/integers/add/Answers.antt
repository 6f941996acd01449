use native.Mathlib.Omega.{arith}
use Rattle.wire.proofs.IntegerSigns.{signs_same, signs_other, add_same, add_first, add_second, add_outside}
use Rattle.wire.proofs.integers.add.Goals as goal
use Rattle.wire.proofs.integers.add.Goals.{then-a-gt-LOWEST-via-then-a-gt-LOWEST, then-a-gt-LOWEST-via-else-a-gt-LOWEST+then-a-b-2}

-- Each return is one law of sums of signs and magnitudes.
pub returns-then-a-gt-LOWEST : goal.returns-then-a-gt-LOWEST
returns-then-a-gt-LOWEST c =
    add_outside c.args.a c.args.b (signs_same c.args.a.negative c.args.b.negative c.if-a-b.true)
    (elim c.then-a-gt-LOWEST.branch [ then-a-gt-LOWEST-via-then-a-gt-LOWEST w ↦ omega arith | then-a-gt-LOWEST-via-else-a-gt-LOWEST+then-a-b-2 w ↦ omega arith ])

pub returns-then-a-b : goal.returns-then-a-b
returns-then-a-b c =
    rw (add_same c.args.a c.args.b (signs_same c.args.a.negative c.args.b.negative c.if-a-b.true)) c.bounded.ensures

pub returns-then-b-a : goal.returns-then-b-a
returns-then-b-a c = rw (add_first c.args.a c.args.b (signs_other c.args.a.negative c.args.b.negative c.if-a-b.false) c.if-b-a.true) c.bounded-then-b-a.ensures

pub returns : goal.returns
returns c = rw (add_second c.args.a c.args.b (signs_other c.args.a.negative c.args.b.negative c.if-a-b.false) (omega arith)) c.bounded-2.ensures
