use mathlib.Core.Path.{◌∙◌}
use Rattle.commands.proofs.Answers.{left_never, left_until}
use Rattle.commands.proofs.answer.time_left.Goals as goal

pub returns-in-None : goal.returns-in-None
returns-in-None c = left_never c.args.time c.args.unit c.in-None.is

pub returns-in-Some : goal.returns-in-Some
returns-in-Some c = rw c.saturating_sub.ensures at c.from.ensures ∙ left_until c.args.time c.args.unit c.in-Some.is
