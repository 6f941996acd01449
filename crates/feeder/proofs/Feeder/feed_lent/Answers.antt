use Rattle.feeder.proofs.OneFeed.{accepts}
use Rattle.feeder.proofs.Feeder.feed_lent.Goals as goal

pub absorb-requires : goal.absorb-requires
absorb-requires c =
    let a = accepts c.args.self.now c.args.store.now c.args.reply.now c.in_ok-check.ensures in
    record { count_value = a.0; store_value = (a.1, a.2) }
