use Rattle.wire.proofs.ByteLaws.{bytes_intro}
use Rattle.wire.proofs.ReplyLaying.{word_laid}
use Rattle.wire.proofs.bytes.copy_word.Goals as goal

pub returns : goal.returns
returns c =
    word_laid c.args.at c.args.from.now c.args.to.now c.write_le.new.s c.read_le.result
    (bytes_intro c.args.from.now (λ i. (c.type_inv.from i).fits)) c.requires.0 c.requires.1 c.read_le.ensures c.write_le.ensures
