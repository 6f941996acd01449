use native.Mathlib.Omega.{arith}
use Rattle.wire.proofs.ReplyLaying.{laid_none, laid_more}
use Rattle.wire.proofs.replies.put_end.Goals as goal

pub returns : goal.returns
returns c = laid_more 10 (laid_more 13 (laid_none _) (omega arith)) (omega arith)
