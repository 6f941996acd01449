use Rattle.store.specs.Time.{now_at}
use Rattle.store.proofs.read.now_at.Goals as goal

pub returns : goal.returns
unfolding now_at
returns c = cc
