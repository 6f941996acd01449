use Prim.Native.Nat.{◌-◌}
use lib.ListN.{length}
use mathlib.Core.List.{map}
use Rattle.commands.specs.TablePromises.{group_number}
use Rattle.commands.proofs.OptionScanning.{Scanning}
use Rattle.commands.proofs.options.scan.Given as goal

-- What is left does the same; the measure is how many words are left.
abbrev pub invariant-loop-i : goal.invariant-loop-i
invariant-loop-i l = Scanning l.words (map group_number l.allowed) l.from l.i l.options

abbrev pub decreases-loop-i : goal.decreases-loop-i
decreases-loop-i l = length l.words - l.i
