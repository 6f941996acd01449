use Rattle.wire.proofs.IntegerReading.{Reading}
use Rattle.wire.proofs.integers.read_natural.Given as goal

-- A text is read digit by digit: what is left of it, after the digits that spell n, says what is read.
abbrev pub invariant-loop-c : goal.invariant-loop-c
invariant-loop-c l = Reading l.most l.s l.n l.c-index
