use mathlib.Core.Path.{◌≡◌}
use Prim.Native.Nat.{◌+◌, ◌*◌}
use Rattle.wire.specs.Words.{word_at}
use Rattle.commands.proofs.PairLoops.{named_from, Repeating}
use Rattle.commands.proofs.pairs.repeats.Given as goal

-- What is left does the same.
abbrev pub invariant-loop-j : goal.invariant-loop-j
invariant-loop-j l =
    Repeating l.field (named_from l.pairs (l.i + 1)) (named_from l.pairs l.j) l.n × (l.field ≡ word_at (2 * l.i) l.pairs)
