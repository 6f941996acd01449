use Rattle.wire.specs.Bytes.{text}
use Rattle.wire.specs.Replies.{line, nil}
use Rattle.wire.proofs.replies.put_nil.Goals as goal

pub put_line-requires : goal.put_line-requires
unfolding nil line text
put_line-requires c = c.requires

pub returns : goal.returns
unfolding nil line text
returns c = c.put_line.ensures
