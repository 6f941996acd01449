use mathlib.Core.Path.{◌∙◌}
use mathlib.Core.Path.{ap}
use Rattle.wire.specs.Bytes.{from_le}
use Rattle.store.proofs.SlotParts.{part_of}
use Rattle.store.proofs.slot.word.Goals as goal

pub returns : goal.returns
returns c = c.read_le.ensures ∙ ap from_le (part_of c.args.at 8 c.args.s.now)
