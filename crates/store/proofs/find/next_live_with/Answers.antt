use borrow.Author.Rules.{rules}
use Rattle.store.specs.Time.{live_of_key}
use Rattle.store.proofs.find.next_live_with.Goals as goal

pub returns : goal.returns
returns c = c.lowest.ensures (live_of_key c.args.time c.args.key.now) (λ t r w q. search rules)
