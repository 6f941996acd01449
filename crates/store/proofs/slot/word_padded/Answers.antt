use mathlib.Core.Path.{ap, ◌∙◌}
use Rattle.wire.specs.Bytes.{from_le}
use Rattle.store.proofs.SlotParts.{word_past, word_short}
use Rattle.store.proofs.slot.word_padded.Goals as goal

pub returns-then-size-at : goal.returns-then-size-at
returns-then-size-at c = word_past c.args.at c.args.s.now c.if-size-at.true

pub returns-then-size-at-lt-WORD : goal.returns-then-size-at-lt-WORD
returns-then-size-at-lt-WORD c = c.read_le.ensures ∙ ap from_le (word_short c.args.at c.args.s.now c.if-size-at-lt-WORD.true)
