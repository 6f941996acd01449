use mathlib.Core.Bool.{Bool}
use Prim.Native.Nat.{◌≤◌}
use Rattle.store.specs.Store.{Slot}
use Rattle.store.specs.Promises.{TellsSlots}
use Rattle.store.proofs.Finding.{Walk, Count}
use Rattle.store.proofs.find.count.Given as goal

abbrev pub invariant-loop-i : goal.invariant-loop-i
invariant-loop-i g l =
    Walk l.store l.i-end × (l.n ≤ l.i) × ((p : Slot → Bool) → TellsSlots (goal.F-post g l.test) p → Count p l.store l.i-end l.n l.i)
