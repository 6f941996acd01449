use mathlib.Core.Path.{ap}
use native.Mathlib.Omega.{arith}
use lib.ListN.{length}
use Rattle.wire.proofs.ReplyLaying.{laid_digit, laid_last, laid_room, length_last}
use Rattle.wire.proofs.IntegerDigits.{text_digit}
use Rattle.wire.proofs.integers.+write_digits.Goals as goal

pub bounds-out-0 : goal.bounds-out-0
bounds-out-0 t c = omega (arith, c.requires, ap length (text_digit c.args.n c.if-n-lt10.true))

pub returns-then-n-lt10 : goal.returns-then-n-lt10
returns-then-n-lt10 t c = laid_digit c.args.n c.args.out.now c.if-n-lt10.true c.requires

pub write_digits-at-requires : goal.write_digits-at-requires
write_digits-at-requires t c = (omega arith, omega (arith, c.requires, length_last c.args.n c.if-n-lt10.false))

pub bounds-out-at : goal.bounds-out-at
bounds-out-at t c = omega (arith, c.write_digits-at.auto.out, laid_room c.args.n c.if-n-lt10.false c.requires c.write_digits-at.ensures)

pub overflow_add-result : goal.overflow_add-result
overflow_add-result t c = omega (arith, laid_room c.args.n c.if-n-lt10.false c.requires c.write_digits-at.ensures)

pub returns : goal.returns
returns t c = laid_last c.args.n c.if-n-lt10.false c.requires c.write_digits-at.ensures
