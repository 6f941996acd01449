-- A number of several digits is written by the digits before its last one, whose number is lower, and then that one. The measure is the number.
use Rattle.wire.proofs.integers.+write_digits.Given as goal

abbrev pub decreases-write_digits : goal.decreases-write_digits
decreases-write_digits l = l.n
