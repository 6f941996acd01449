use Rattle.wire.proofs.ByteLoops.{Gathering}
use Rattle.wire.proofs.bytes.all_zero.Given as goal

abbrev pub invariant-loop-b : goal.invariant-loop-b
invariant-loop-b l = Gathering l.s l.bits l.b-index
