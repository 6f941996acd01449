use mathlib.Core.Path.{ap, ◌∙◌}
use Rattle.wire.specs.Words.{word_at}
use Rattle.wire.proofs.WordPlaces.{word_part, word_past}
use Rattle.wire.proofs.words.Words.word.Goals as goal

-- A word by its place, or past the places.
pub returns-then-self-i : goal.returns-then-self-i
returns-then-self-i c = word_past _ _ c.args.i c.if-self-i.true ∙ ap (word_at c.args.i) c.self.view_is

pub returns : goal.returns
returns c = word_part _ _ c.args.i ∙ ap (word_at c.args.i) c.self.view_is
