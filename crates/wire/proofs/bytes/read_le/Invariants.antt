use Rattle.wire.proofs.ByteLoops.{Reading}
use Rattle.wire.proofs.bytes.read_le.Given as goal

abbrev pub invariant-loop-i : goal.invariant-loop-i
invariant-loop-i l = Reading l.s l.x l.i
