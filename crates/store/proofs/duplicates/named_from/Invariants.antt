use Rattle.store.proofs.StoreChecks.{Seeking}
use Rattle.store.proofs.duplicates.named_from.Given as goal

abbrev pub invariant-loop-i : goal.invariant-loop-i
invariant-loop-i l = Seeking l.key l.field l.count l.store l.from l.i
