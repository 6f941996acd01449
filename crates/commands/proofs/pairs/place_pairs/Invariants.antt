use mathlib.Core.Path.{◌≡◌}
use lib.ListN.{length}
use Rattle.commands.specs.Parse.{pairs_of}
use Rattle.commands.proofs.PairLoops.{pairs_from, Writing}
use Rattle.commands.proofs.pairs.place_pairs.Given as goal

-- What is left does the same.
abbrev pub invariant-loop-i : goal.invariant-loop-i
invariant-loop-i l =
    Writing l.time l.key (pairs_of l.pairs) (pairs_from l.pairs l.i) l.initial.bytes l.bytes × (length l.bytes ≡ length l.initial.bytes)
