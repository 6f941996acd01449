use mathlib.Core.Path.{refl}
use Rattle.wire.specs.Bytes.{padded}
use Rattle.feeder.specs.State.{state_of, fresh}
use Rattle.feeder.proofs.Feeder.fresh.Goals as goal

pub returns : goal.returns
unfolding fresh state_of padded
returns c = refl
