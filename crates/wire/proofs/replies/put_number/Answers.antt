use Rattle.wire.specs.Bytes.{text}
use Rattle.wire.specs.Integers.{integer_text}
use Rattle.wire.specs.Replies.{integer}
use Rattle.wire.proofs.replies.put_number.Goals as goal

pub put_count-requires : goal.put_count-requires
unfolding integer text integer_text
put_count-requires c = c.requires

pub returns : goal.returns
unfolding integer text integer_text
returns c = c.put_count.ensures
