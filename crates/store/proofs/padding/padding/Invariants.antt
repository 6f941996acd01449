use mathlib.Core.Path.{◌≡◌}
use Prim.Native.Nat.{◌+◌, ◌*◌, max}
use lib.Dec.{eqb}
use Rattle.store.specs.Store.{zero_beyond}
use Rattle.store.proofs.padding.padding.Given as goal

-- the bytes beyond those used are covered up to the end of the word after them, and of each word of the place that was looked at
abbrev pub invariant-loop-w : goal.invariant-loop-w
invariant-loop-w l = eqb l.bits 0 ≡ zero_beyond l.at (max (l.used + 8) (8 * l.w)) l.used l.t
