use mathlib.Core.Path.{sym, ◌∙◌}
use Rattle.wire.specs.Lists.{only_if, or_else}
use Rattle.compare.proofs.listing.first_mark.Goals as goal

pub agree-requires : goal.agree-requires
agree-requires c = (c.requires.0, c.requires.1 _ c.in-Some.is)

pub returns-in-None : goal.returns-in-None
unfolding or_else
returns-in-None c = rw c.in-None.is

pub returns-in-Some : goal.returns-in-Some
unfolding or_else only_if
returns-in-Some c = rw (c.in-Some.is, sym c.agree.ensures ∙ c.if-agree.true)

pub returns-in-Some-2 : goal.returns-in-Some-2
unfolding or_else only_if
returns-in-Some-2 c = rw (c.in-Some.is, sym c.agree.ensures ∙ c.if-agree.false)
