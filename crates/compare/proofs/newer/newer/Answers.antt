use mathlib.Core.Path.{sym, ◌∙◌}
use Rattle.compare.proofs.NewerPlaces.{first_held, second_held, first_shown, second_shown, neither_shown}
use Rattle.compare.proofs.newer.newer.Goals as goal

pub value-requires : goal.value-requires
value-requires c = first_held _ _ _ _ _ _ (sym c.newer_in.ensures ∙ c.in-First.is)

pub value-requires-in-Second : goal.value-requires-in-Second
value-requires-in-Second c =
    second_held _ _ _ _ _ _ (sym c.newer_in.ensures ∙ c.in-Second.is)

pub returns-in-First : goal.returns-in-First
returns-in-First c =
    first_shown _ _ _ _ _ _ (sym c.newer_in.ensures ∙ c.in-First.is) c.value.ensures

pub returns-in-Second : goal.returns-in-Second
returns-in-Second c =
    second_shown _ _ _ _ _ _ (sym c.newer_in.ensures ∙ c.in-Second.is) c.value-in-Second.ensures

pub returns-in-Neither : goal.returns-in-Neither
returns-in-Neither c = rw (← c.newer_in.ensures) (neither_shown c.args.first.now c.args.second.now c.newer_in.result c.in-Neither.is)
