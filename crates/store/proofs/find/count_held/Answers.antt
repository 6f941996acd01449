use borrow.Author.Rules.{rules}
use Rattle.store.specs.Time.{of_key}
use Rattle.store.proofs.find.count_held.Goals as goal

pub returns : goal.returns
returns c = c.count.ensures (of_key c.args.key.now) (λ t r w q. rw (← c.new-sought.ensures) (search rules))
