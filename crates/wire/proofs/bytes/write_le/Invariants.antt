use lib.ListN.{length}
use Rattle.wire.proofs.ByteLoops.{Writing}
use Rattle.wire.proofs.bytes.write_le.Given as goal

abbrev pub invariant-loop-b : goal.invariant-loop-b
invariant-loop-b l = Writing (length l.initial.s) l.x l.s l.rest l.b-index
