use mathlib.Core.Path.{refl}
use Rattle.wire.proofs.ReplyLaying.{fill_begins, fill_goes_on}
use Rattle.wire.proofs.bytes.copy_bytes.Goals as goal

pub loop-i-init : goal.loop-i-init
loop-i-init c = fill_begins _ _ c.requires

pub loop-i-preserved : goal.loop-i-preserved
loop-i-preserved c = fill_goes_on _ _ _ _ _ c.loop-i.invariant c.loop-i-test.true refl
