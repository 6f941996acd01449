use Rattle.wire.proofs.ReplyLaying.{Filling}
use Rattle.wire.proofs.bytes.copy.Given as goal

abbrev pub invariant-loop-i : goal.invariant-loop-i
invariant-loop-i l = Filling l.from l.initial.to l.i l.to
