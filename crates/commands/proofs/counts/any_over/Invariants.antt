use mathlib.Core.Path.{◌≡◌}
use lib.Dec.{ltb}
use lib.ListN.{length, drop}
use Rattle.wire.specs.Lists.{any}
use Rattle.store.specs.Layout.{field_most}
use Rattle.commands.specs.ParsePromises.{any_over}
use Rattle.commands.proofs.counts.any_over.Given as goal

-- What is left does the same.
abbrev pub invariant-loop-i : goal.invariant-loop-i
invariant-loop-i l = any_over l.words ≡ any (λ f. ltb field_most (length f)) (drop l.i l.words)
