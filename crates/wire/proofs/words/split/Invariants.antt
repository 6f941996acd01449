use mathlib.Core.Path.{◌≡◌}
use Prim.Native.Nat.{◌≤◌}
use lib.ListN.{length}
use Rattle.wire.specs.Promises.{Places}
use Rattle.wire.proofs.WordPlaces.{Progress}
use Rattle.wire.proofs.words.split.Given as goal

-- The words found so far and the words left are the command's words, and with none left a command that goes on
-- has no words.
abbrev pub invariant-loop-i : goal.invariant-loop-i
invariant-loop-i l =
    Progress l.s l.places l.head.count l.head.next l.at l.i × (length l.places ≡ length l.initial.places)
    × (l.head.count ≤ l.i → (l.at ≡ length l.s → ⊥) → Places l.s l.places 0)
