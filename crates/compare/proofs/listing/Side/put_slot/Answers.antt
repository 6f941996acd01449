use borrow.Author.Rules.{rules}
use mathlib.Core.Path.{sym, ◌∙◌}
use Rattle.wire.proofs.ReplyLaying.{laid_none, laid_length}
use Rattle.compare.proofs.LineTexts.{live_slot_lem, slot_inside, slot_dead, slot_unmarked, slot_marked}
use Rattle.compare.proofs.listing.Side.put_slot.Goals as goal

pub is_live-requires : goal.is_live-requires
is_live-requires c = slot_inside _ _ (search rules) c.requires.i_in_store

pub returns-then-not-is_live : goal.returns-then-not-is_live
returns-then-not-is_live c =
    rw (slot_dead c.args.self.now.pass c.args.self.now.instant _ c.args.self.now.other.now _ (sym c.is_live.ensures ∙ c.if-not-is_live.true))
    (laid_none c.args.out.now)

pub mark_of-requires : goal.mark_of-requires
mark_of-requires c = live_slot_lem _ _ (search rules) c.requires.i_in_store c.args.self.now.instant (sym c.is_live.ensures ∙ c.if-not-is_live.false)

pub returns-in_default : goal.returns-in_default
returns-in_default c =
    rw (slot_unmarked _ _ _ _ _ (sym c.is_live.ensures ∙ c.if-not-is_live.false) c.mark_of.ensures c.in_default.is) (laid_none c.args.out.now)

pub key-requires : goal.key-requires
key-requires c = live_slot_lem _ _ (search rules) c.requires.i_in_store c.args.self.now.instant (sym c.is_live.ensures ∙ c.if-not-is_live.false)

pub field-requires : goal.field-requires
field-requires c = live_slot_lem _ _ (search rules) c.requires.i_in_store c.args.self.now.instant (sym c.is_live.ensures ∙ c.if-not-is_live.false)

pub put_line-requires : goal.put_line-requires
put_line-requires c =
    rw (slot_marked _ _ _ _ _ (sym c.is_live.ensures ∙ c.if-not-is_live.false) c.mark_of.ensures c.in-Some.is, ← c.key.ensures, ← c.field.ensures) at
    c.requires.i_in_bounds

pub shape_of-out : goal.shape_of-out
shape_of-out c =
    laid_length c.put_line.ensures (rw (
      slot_marked _ _ _ _ _ (sym c.is_live.ensures ∙ c.if-not-is_live.false) c.mark_of.ensures c.in-Some.is,
      ←
          c.key.ensures,
      ← c.field.ensures,
    ) at c.requires.i_in_bounds)

pub returns : goal.returns
returns c =
    rw (slot_marked _ _ _ _ _ (sym c.is_live.ensures ∙ c.if-not-is_live.false) c.mark_of.ensures c.in-Some.is, ← c.key.ensures, ← c.field.ensures)
    c.put_line.ensures
