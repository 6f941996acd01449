use Rattle.store.proofs.SlotParts.{live_of_key_lem}
use Rattle.store.proofs.slot.SoughtKey.is_live.Goals as goal

pub returns-then-is_live : goal.returns-then-is_live
returns-then-is_live c = rw (live_of_key_lem, ← c.is_live.ensures, c.if-is_live.true) c.is_held.ensures

pub returns : goal.returns
returns c = rw (live_of_key_lem, ← c.is_live.ensures, c.if-is_live.false)
