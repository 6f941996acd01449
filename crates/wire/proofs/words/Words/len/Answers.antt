use mathlib.Core.Path.{sym, ap, ◌∙◌}
use lib.ListN.{length}
use Rattle.wire.proofs.WordPlaces.{length_words}
use Rattle.wire.proofs.words.Words.len.Goals as goal

pub returns-clause-value : goal.returns-clause-value
returns-clause-value c = sym (length_words _ _) ∙ ap length c.self.view_is
