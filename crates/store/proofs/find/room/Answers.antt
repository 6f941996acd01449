use borrow.Author.Rules.{rules}
use Rattle.store.specs.Time.{room_slot}
use Rattle.store.proofs.find.room.Goals as goal

pub returns : goal.returns
unfolding room_slot
returns c = c.count.ensures (room_slot c.args.time) (λ t r w q. search rules)
