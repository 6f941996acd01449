use Rattle.feeder.proofs.ScanStops.{Looking}
use Rattle.feeder.proofs.scan.is_unmarked.Given as goal

-- Where no mark was seen, none begins before i.
abbrev pub invariant-loop-i : goal.invariant-loop-i
invariant-loop-i l = Looking l.block l.following l.unmarked l.i
