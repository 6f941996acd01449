use borrow.Author.Rules.{rules}
use Rattle.compare.proofs.MarkLaws.{live_held, mark_first, mark_second}
use Rattle.compare.proofs.listing.Side.mark_of.Goals as goal

pub first_mark-requires : goal.first_mark-requires
first_mark-requires c = (c.requires, live_held c.args.self.now.other.now _ _ c.args.self.now.instant (search rules) c.live_near-found.ensures)

pub returns-in-First : goal.returns-in-First
returns-in-First c =
    rw c.in-First.is
    (mark_first _ _ _ (rw (← c.key-key.ensures, ← c.field-field.ensures) c.live_near-found.ensures) c.first_mark.ensures)

pub returns-in-Second : goal.returns-in-Second
returns-in-Second c =
    rw c.in-Second.is
    (mark_second _ _ _ (rw (← c.key-key.ensures, ← c.field-field.ensures) c.live_near-found.ensures) c.second_mark.ensures)
