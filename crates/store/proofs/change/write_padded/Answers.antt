use Rattle.store.proofs.Writing.{padded_over}
use Rattle.store.proofs.change.write_padded.Goals as goal

pub returns : goal.returns
returns c = padded_over _ c.args.to.now _ _ c.clear.ensures c.copy.ensures
