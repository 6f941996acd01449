use lib.ListN.{replicate}
use Rattle.feeder.specs.Record.{record_most}
use Rattle.feeder.proofs.Absorbing.{joined_done}
use Rattle.feeder.proofs.record.Joined.do_joined.Goals as goal

pub returns : goal.returns
returns c =
    let pre = c.requires.completing in joined_done _ _ _ _ pre.0 pre.1 (replicate record_most 0) c.args.store.now c.gather.ensures c.do_record.ensures
