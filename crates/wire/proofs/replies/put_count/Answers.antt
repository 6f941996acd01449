use Rattle.wire.proofs.ReplyLaying.{laid_tail, marked}
use Rattle.wire.specs.Integers.{natural_text}
use Rattle.wire.specs.Words.{crlf}
use Rattle.wire.proofs.replies.put_count.Goals as goal

pub returns : goal.returns
returns c = laid_tail (marked c.args.mark (natural_text c.args.n) crlf c.args.out.now c.requires c.write_natural-at.ensures) c.put_end.ensures
