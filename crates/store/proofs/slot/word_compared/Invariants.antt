use Rattle.store.proofs.Comparing.{Words}
use Rattle.store.proofs.slot.word_compared.Given as goal

abbrev pub invariant-loop-n : goal.invariant-loop-n
invariant-loop-n l = Words l.x l.y l.a l.b l.n
