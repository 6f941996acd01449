use mathlib.Core.Path.{◌≡◌}
use lib.ListN.{length}
use Rattle.store.proofs.BloomFilter.{Sifting}
use Rattle.store.proofs.check.slots_well.Given as goal

abbrev pub invariant-loop-i : goal.invariant-loop-i
invariant-loop-i l = (length l.filter ≡ length l.initial.filter) × Sifting l.count l.store l.i l.filter
