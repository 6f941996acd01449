use Rattle.feeder.proofs.ScanStops.{next_marked}
use Rattle.feeder.proofs.record.Joined.next_place.Goals as goal

pub returns : goal.returns
returns c = next_marked c.args.self.now.waiting.now c.args.self.now.piece.now c.args.at c.next_mark.result c.if-next-before.false c.next_mark.ensures
