use mathlib.Core.List.{flatten}
use Prim.Native.Nat.{◌-◌}
use lib.ListN.{length}
use Rattle.store.specs.Store.{decode}
use Rattle.commands.specs.Promises.{listed_of}
use Rattle.wire.proofs.Elements.{Going}
use Rattle.commands.proofs.ListedSlots.{shown_from}
use Rattle.commands.proofs.key.put_listed.Given as goal

-- What is left does the same; the measure is how many slots are left.
abbrev pub invariant-loop-i : goal.invariant-loop-i
invariant-loop-i l =
    Going (flatten (listed_of l.time l.bytes l.key l.listing)) (shown_from l.time l.bytes l.key l.listing l.from) l.initial.out l.out l.at

abbrev pub decreases-loop-i : goal.decreases-loop-i
decreases-loop-i l = length (decode l.bytes).slots - l.from
