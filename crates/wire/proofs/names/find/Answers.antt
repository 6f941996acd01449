use mathlib.Core.Path.{sym, ◌∙◌}
use Prim.Native.Nat.{◌/◌}
use native.Mathlib.Nat.{sub-zero}
use native.Mathlib.Omega.{arith}
use lib.ListN.{length}
use Rattle.wire.specs.Promises.{row_size, row_named}
use Rattle.wire.proofs.NameRows.{row_hit, row_skip, row_end}
use Rattle.wire.proofs.names.find.Goals as goal

pub loop-i-init : goal.loop-i-init
unfolding row_named
loop-i-init c = (omega arith, rw (sub-zero (length c.args.table.now / row_size)))

pub returns-then-spells : goal.returns-then-spells
returns-then-spells c = (sym (row_hit _ _ _ _ c.loop-i-test.true _ c.spells.ensures c.if-spells.true) ∙ c.loop-i.invariant.1)

pub loop-i-preserved : goal.loop-i-preserved
loop-i-preserved c = (omega arith, sym (row_skip _ _ _ _ c.loop-i-test.true _ c.spells.ensures c.if-spells.false) ∙ c.loop-i.invariant.1)

pub returns : goal.returns
returns c = (sym (row_end _ _ _ _ c.loop-i-test.false) ∙ c.loop-i.invariant.1)
