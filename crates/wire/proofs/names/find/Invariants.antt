use mathlib.Core.Path.{◌≡◌}
use Prim.Native.Nat.{◌≤◌, ◌-◌}
use Rattle.wire.specs.Promises.{row_from, row_named}
use Rattle.wire.proofs.names.find.Given as goal

-- The rows from row i on do the same as all rows.
abbrev pub invariant-loop-i : goal.invariant-loop-i
invariant-loop-i l = (l.i ≤ l.rows) × (row_from (l.rows - l.i) l.i l.table l.word ≡ row_named l.table l.word)
