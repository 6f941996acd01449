use Prim.Native.Nat.{◌-◌}
use lib.ListN.{length}
use Rattle.feeder.specs.Promises.{joined}
use Rattle.feeder.proofs.ScanStops.{Scanning}
use Rattle.feeder.proofs.record.Joined.first_stop.Given as goal

-- From `at` on reading stops where it stops from the start. The measure is what is left of the bytes.
abbrev pub invariant-loop-at : goal.invariant-loop-at
invariant-loop-at l = Scanning (joined l.self) l.at

abbrev pub decreases-loop-at : goal.decreases-loop-at
decreases-loop-at l = length (joined l.self) - l.at
