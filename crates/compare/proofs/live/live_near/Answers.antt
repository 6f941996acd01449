use mathlib.Core.Path.{sym, ◌∙◌}
use Rattle.compare.proofs.LiveEntries.{found_inside, named_nowhere, named_live}
use Rattle.compare.proofs.live.live_near.Goals as goal

pub returns-in_err-i : goal.returns-in_err-i
returns-in_err-i c = c.from_residual.ensures ∙ named_nowhere _ _ _ _ c.requires (sym c.in_err-i.was ∙ c.named_near.ensures)

pub is_live-requires : goal.is_live-requires
is_live-requires c = found_inside _ _ _ c.args.instant c.requires _ (sym c.in_ok-i.was ∙ c.named_near.ensures)

pub returns : goal.returns
returns c = c.then_some.ensures ∙ named_live _ _ _ _ c.requires _ (sym c.in_ok-i.was ∙ c.named_near.ensures) c.is_live.ensures
