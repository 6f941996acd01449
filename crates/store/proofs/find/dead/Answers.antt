use mathlib.Core.Path.{◌∙◌}
use Rattle.store.specs.Store.{decode}
use Rattle.store.proofs.Finding.{lowest_begin}
use borrow.Author.Rules.{rules}
use Rattle.store.specs.Time.{dead_slot}
use Rattle.store.proofs.find.dead.Goals as goal

pub returns : goal.returns
returns c = c.lowest.ensures (dead_slot c.args.time) (λ t r w q. search rules) ∙ lowest_begin (dead_slot c.args.time) (decode c.args.store.now).slots
