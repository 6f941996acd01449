use Prim.Native.Nat.{◌+◌, ◌-◌}
use Rattle.store.specs.Store.{decode}
use Rattle.store.specs.Promises.{Skips}
use Rattle.store.proofs.Finding.{Walk}
use Rattle.store.proofs.find.next_candidate.Given as goal

abbrev pub invariant-loop-i : goal.invariant-loop-i
invariant-loop-i l = Walk l.store (l.last + 1) × Skips l.fingerprint l.start (decode l.store).slots l.i

abbrev pub decreases-loop-i : goal.decreases-loop-i
decreases-loop-i l = l.last - l.i
