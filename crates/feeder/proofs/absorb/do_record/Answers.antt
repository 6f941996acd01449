use Rattle.feeder.proofs.Absorbing.{record_done}
use Rattle.feeder.proofs.absorb.do_record.Goals as goal

pub returns : goal.returns
returns c =
    record_done c.args.size c.args.bytes.now c.args.store.now c.read_le-clock.ensures c.execute.ensures
