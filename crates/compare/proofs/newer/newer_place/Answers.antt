use mathlib.Core.Path.{sym, ◌∙◌}
use Rattle.compare.specs.Newer.{place_of}
use Rattle.compare.proofs.NewerPlaces.{first_held, second_held}
use Rattle.compare.proofs.newer.newer_place.Goals as goal

pub place-requires : goal.place-requires
place-requires c = first_held _ _ _ _ _ _ (sym c.newer_in.ensures ∙ c.in-First.is)

pub place-requires-in-Second : goal.place-requires-in-Second
place-requires-in-Second c =
    second_held _ _ _ _ _ _ (sym c.newer_in.ensures ∙ c.in-Second.is)

pub returns-in-First : goal.returns-in-First
unfolding place_of
returns-in-First c = rw (sym c.newer_in.ensures ∙ c.in-First.is, c.place.ensures)

pub returns-in-Second : goal.returns-in-Second
unfolding place_of
returns-in-Second c = rw (sym c.newer_in.ensures ∙ c.in-Second.is, c.place-in-Second.ensures)

pub returns-in-Neither : goal.returns-in-Neither
unfolding place_of
returns-in-Neither c = rw (sym c.newer_in.ensures ∙ c.in-Neither.is)

pub returns-in-Refused : goal.returns-in-Refused
unfolding place_of
returns-in-Refused c = rw (sym c.newer_in.ensures ∙ c.in-Refused.is)
