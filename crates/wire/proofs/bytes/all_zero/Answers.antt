use Rattle.wire.proofs.ByteLoops.{gather_goes_on, gather_ends}
use Rattle.wire.proofs.bytes.all_zero.Goals as goal

pub loop-b-preserved : goal.loop-b-preserved
loop-b-preserved c = gather_goes_on _ _ _ c.loop-b.invariant c.loop-b-test.true

pub returns : goal.returns
returns c = gather_ends _ _ _ c.loop-b.invariant c.loop-b-test.false
