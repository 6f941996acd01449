use mathlib.Core.Path.{◌∙◌}
use Prim.Native.Nat.{◌+◌, ◌*◌}
use Rattle.store.proofs.SlotParts.{part_of}
use Rattle.store.proofs.slot.bytes.Goals as goal

pub returns : goal.returns
returns c =
    (rw c.unwrap.ensures at c.as_array.ensures.cases).same
    ∙ rw c.place.ensures (part_of (16 + 128 * c.args.i) 128 c.args.store.now)
