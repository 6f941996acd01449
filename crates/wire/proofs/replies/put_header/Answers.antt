use Rattle.wire.specs.Bytes.{text}
use Rattle.wire.specs.Replies.{header}
use Rattle.wire.proofs.replies.put_header.Goals as goal

pub put_count-requires : goal.put_count-requires
unfolding header text
put_count-requires c = c.requires

pub returns : goal.returns
unfolding header text
returns c = c.put_count.ensures
