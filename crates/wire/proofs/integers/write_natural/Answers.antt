use mathlib.Core.Path.{ap}
use native.Mathlib.Omega.{arith}
use lib.ListN.{length, length-set}
use Rattle.wire.proofs.IntegerDigits.{text_digit}
use Rattle.wire.proofs.ReplyLaying.{laid_digit, two_room, laid_two}
use Rattle.wire.proofs.integers.write_natural.Goals as goal

pub bounds-out-0 : goal.bounds-out-0
bounds-out-0 c = omega (arith, c.requires, ap length (text_digit c.args.n c.if-n-lt10.true))

pub returns-then-n-lt10 : goal.returns-then-n-lt10
returns-then-n-lt10 c = laid_digit c.args.n c.args.out.now c.if-n-lt10.true c.requires

pub bounds-out-0-then-n-lt100 : goal.bounds-out-0-then-n-lt100
bounds-out-0-then-n-lt100 c = omega (arith, two_room c.args.n c.args.out.now c.if-n-lt10.false c.if-n-lt100.true c.requires)

pub bounds-out-1 : goal.bounds-out-1
bounds-out-1 c = simp length-set (omega (arith, two_room c.args.n c.args.out.now c.if-n-lt10.false c.if-n-lt100.true c.requires))

pub returns-then-n-lt100 : goal.returns-then-n-lt100
returns-then-n-lt100 c = laid_two c.args.n c.args.out.now c.if-n-lt10.false c.if-n-lt100.true c.requires
