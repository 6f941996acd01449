use native.Mathlib.Omega.{arith}
use Rattle.wire.proofs.ByteLoops.{write_goes_on, write_ends}
use Rattle.wire.proofs.bytes.write_le.Goals as goal

pub loop-b-preserved : goal.loop-b-preserved
loop-b-preserved c = write_goes_on _ _ _ _ _ c.loop-b.invariant (omega arith)

pub returns : goal.returns
returns c = write_ends _ _ _ _ _ c.loop-b.invariant (omega arith)
