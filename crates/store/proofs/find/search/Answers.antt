use mathlib.Core.Path.{◌∙◌}
use native.Mathlib.Omega.{arith}
use Rattle.store.proofs.Comparing.{search_whole}
use Rattle.store.proofs.find.search.Goals as goal

pub search_within-requires : goal.search_within-requires
search_within-requires c = record { store_value = c.requires; words_value = c.name_words-words.ensures; end_in_bounds = omega (arith, c.slots.ensures) }

pub returns : goal.returns
returns c = c.search_within.ensures ∙ search_whole _ _ _ _ c.slots.ensures
