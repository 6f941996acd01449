use mathlib.Core.Path.{◌≡◌}
use lib.ListN.{length}
use Rattle.commands.proofs.FieldLoops.{Deleting, words_from}
use Rattle.commands.proofs.key.remove_fields.Given as goal

-- What is left does the same.
abbrev pub invariant-loop-i : goal.invariant-loop-i
invariant-loop-i l =
    Deleting l.key l.fields (words_from l.fields l.i) l.initial.bytes l.bytes l.n × (length l.bytes ≡ length l.initial.bytes)
