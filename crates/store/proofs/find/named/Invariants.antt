use Prim.Native.Nat.{◌-◌}
use Rattle.store.specs.Store.{decode, holds}
use Rattle.store.specs.Time.{lowest_slot}
use Rattle.store.proofs.Finding.{Seek}
use Rattle.store.proofs.find.named.Given as goal

abbrev pub invariant-loop-i : goal.invariant-loop-i
invariant-loop-i l = Seek (holds l.key l.field) l.store l.count l.i (lowest_slot (holds l.key l.field) (decode l.store).slots)

abbrev pub decreases-loop-i : goal.decreases-loop-i
decreases-loop-i l = l.count - l.i
