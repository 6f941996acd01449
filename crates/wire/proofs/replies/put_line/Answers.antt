use Rattle.wire.proofs.ReplyLaying.{laid_copied, laid_tail}
use Rattle.wire.proofs.replies.put_line.Goals as goal

pub returns : goal.returns
returns c = laid_tail (laid_copied c.copy.ensures) c.put_end.ensures
