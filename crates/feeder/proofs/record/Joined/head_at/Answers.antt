use Rattle.std.proofs.Common.{rules}
use Rattle.feeder.proofs.RecordTests.{all_there}
use Rattle.feeder.proofs.record.Joined.head_at.Goals as goal

-- The size by the bytes of both places: another size does not fit here.
pub returns : goal.returns
returns c =
    all_there c.args.self.now.waiting.now c.args.self.now.piece.now c.args.at c.byte_at.ensures c.len.ensures c.if-byte_at-ne-FIRST_MARK.false
    c.if-left-lt2.false c.byte_at-2.ensures c.if-byte_at-ne-SECOND_MARK.false c.if-left-lt-COMMAND_AT.false
    c.byte_at-low.ensures c.byte_at-high.ensures (search rules) (search rules) c.if-left-size.false
