use mathlib.Core.Path.{◌≡◌}
use Rattle.store.specs.Store.{slot_count}
use Rattle.programs.proofs.show_slots.Given as goal

abbrev pub invariant-loop-i : goal.invariant-loop-i
invariant-loop-i g l = (l.i-end ≡ slot_count l.store) × (l.shown ≡ l.i-counter)
