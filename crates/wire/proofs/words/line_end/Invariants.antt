use mathlib.Core.Path.{◌≡◌}
use Prim.Native.Nat.{◌+◌}
use lib.ListN.{length, drop}
use Rattle.wire.specs.Words.{before_cr}
use Rattle.wire.proofs.words.line_end.Given as goal

-- From place i on the first CR is the same as from the start.
abbrev pub invariant-loop-i : goal.invariant-loop-i
invariant-loop-i l = l.i + length (before_cr (drop l.i l.s)) ≡ l.from + length (before_cr (drop l.from l.s))
