use mathlib.Core.Path.{◌∙◌}
use Rattle.store.specs.Store.{decode}
use Rattle.store.proofs.Finding.{lowest_begin}
use borrow.Author.Rules.{rules}
use Rattle.store.specs.Time.{empty_slot}
use Rattle.store.proofs.find.empty.Goals as goal

pub returns : goal.returns
returns c = c.lowest.ensures empty_slot (λ t r w q. search rules) ∙ lowest_begin empty_slot (decode c.args.store.now).slots
