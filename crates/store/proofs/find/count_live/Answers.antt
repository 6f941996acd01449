use borrow.Author.Rules.{rules}
use Rattle.store.specs.Time.{live_of_key}
use Rattle.store.proofs.find.count_live.Goals as goal

pub returns : goal.returns
returns c = c.count.ensures (live_of_key c.args.time c.args.key.now) (λ t r w q. rw (← c.new-sought.ensures) (search rules))
