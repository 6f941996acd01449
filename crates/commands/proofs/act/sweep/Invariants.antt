use mathlib.Core.Path.{◌≡◌}
use lib.ListN.{length}
use Rattle.commands.specs.Promises.{each_first}
use Rattle.commands.proofs.FieldLoops.{Sweeping, firsts_from}
use Rattle.commands.proofs.act.sweep.Given as goal

-- What is left does the same.
abbrev pub invariant-loop-i : goal.invariant-loop-i
invariant-loop-i g l =
    Sweeping l.time l.key (each_first g.row.STEP l.words) (firsts_from g.row.STEP l.words l.i) l.initial.bytes l.bytes × (length l.bytes ≡ length l.initial.bytes)
