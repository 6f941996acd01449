use mathlib.Core.Bool.{Bool}
use Rattle.store.specs.Store.{Slot, decode}
use Rattle.store.specs.Promises.{lowest_from, TellsSlots}
use Rattle.store.proofs.Finding.{Walk, Seek}
use Rattle.store.proofs.find.lowest.Given as goal

abbrev pub invariant-loop-i : goal.invariant-loop-i
invariant-loop-i g l =
    Walk l.store l.i-end × ((p : Slot → Bool) → TellsSlots (goal.F-post g l.test) p → Seek p l.store l.i-end l.i (lowest_from l.from p (decode l.store).slots))
