use Rattle.std.specs.Prelude.{None}
use mathlib.Core.Path.{◌≡◌}
use Prim.Native.Nat.{◌-◌}
use Rattle.store.proofs.Comparing.{Searching, InSlot}
use Rattle.store.proofs.find.search_within.Given as goal

abbrev pub invariant-loop-w : goal.invariant-loop-w
invariant-loop-w l = InSlot l.key l.field l.words l.store l.end l.from l.i l.compared l.t l.w × (l.i ≡ l.initial.i)

abbrev pub decreases-loop-w : goal.decreases-loop-w
decreases-loop-w l = 6 - l.w

abbrev pub invariant-slots : goal.invariant-slots
invariant-slots l = Searching l.key l.field l.store l.end l.from l.i l.compared × (l.found ≡ None)

abbrev pub decreases-slots : goal.decreases-slots
decreases-slots l = l.end - l.i
