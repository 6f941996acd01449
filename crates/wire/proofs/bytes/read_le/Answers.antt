use Rattle.wire.proofs.ByteLoops.{read_begins, read_fits, read_goes_on}
use Rattle.wire.proofs.bytes.read_le.Goals as goal

pub loop-i-init : goal.loop-i-init
loop-i-init c = read_begins _

pub overflow_add-x : goal.overflow_add-x
overflow_add-x c = record { fits = read_fits _ _ _ c.loop-i.invariant c.requires c.loop-i-test.true (c.type_inv.s c.loop-i.i).fits }

pub loop-i-preserved : goal.loop-i-preserved
loop-i-preserved c = read_goes_on _ _ _ c.loop-i.invariant c.requires c.loop-i-test.true (c.type_inv.s c.loop-i.i).fits
