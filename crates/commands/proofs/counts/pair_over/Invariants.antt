use mathlib.Core.Path.{◌≡◌}
use mathlib.Core.Bool.{◌||◌}
use Prim.Native.Nat.{◌*◌}
use lib.Dec.{ltb}
use lib.ListN.{length, drop}
use Rattle.wire.specs.Lists.{any}
use Rattle.store.specs.Layout.{field_most, value_most}
use Rattle.commands.specs.Parse.{pairs_of}
use Rattle.commands.specs.ParsePromises.{pair_over}
use Rattle.commands.proofs.counts.pair_over.Given as goal

-- What is left does the same.
abbrev pub invariant-loop-i : goal.invariant-loop-i
invariant-loop-i l =
    pair_over l.words
    ≡ any (λ p. ltb field_most (length p.field) || ltb value_most (length p.value)) (pairs_of (drop (2 * l.i) l.words))
