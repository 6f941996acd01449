use mathlib.Core.Path.{sym, ◌∙◌}
use Rattle.wire.proofs.ByteLaws.{bytes_intro}
use Rattle.store.proofs.SlotParts.{other_fingerprint, other_size, short_holds}
use Rattle.store.proofs.slot.Slot.holds_with.Goals as goal

pub returns-then-fingerprint_at-fingerprint : goal.returns-then-fingerprint_at-fingerprint
returns-then-fingerprint_at-fingerprint c =
    rw (← c.self.view_is) (sym (other_fingerprint c.self.inside.bytes.now c.args.k.now c.args.f.now c.self.invariant (λ q. c.if-fingerprint_at-fingerprint.true (c.fingerprint_at.ensures ∙ q ∙ sym c.requires))))

pub returns-then-t-f : goal.returns-then-t-f
returns-then-t-f c =
    rw (← c.self.view_is) (sym (other_size c.self.inside.bytes.now c.args.k.now c.args.f.now c.self.invariant c.if-t-f.true))

pub returns : goal.returns
returns c =
    c.of_key.ensures
    ∙ rw (← c.self.view_is) (sym (short_holds c.self.inside.bytes.now c.args.k.now c.args.f.now c.self.invariant
    (bytes_intro c.args.f.now (λ i. (c.type_inv.f i).fits)) c.if-f-gt-WORD.false c.if-t-f.false
    (sym c.fingerprint_at.ensures ∙ c.if-fingerprint_at-fingerprint.false ∙ c.requires)))
