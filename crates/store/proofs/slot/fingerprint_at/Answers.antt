use Rattle.wire.specs.Bytes.{part}
use Rattle.store.proofs.slot.fingerprint_at.Goals as goal

pub returns : goal.returns
unfolding part
returns c = c.fingerprint_of.ensures
