use Rattle.commands.proofs.Handing.{handed}
use Rattle.commands.proofs.Parsing.{not_clean, ready}
use Rattle.commands.proofs.ParseFamilies.{count_takes, count_live_lem, count_held_lem}
use Rattle.commands.proofs.parse.parse_count.Goals as goal

pub returns-in_err-options : goal.returns-in_err-options
returns-in_err-options c =
    λ time. rw (handed c.from_residual.result c.from_residual.ensures.1) (not_clean count_takes _ c.in_err-options.ensures time)

pub returns-then-options : goal.returns-then-options
returns-then-options c = λ time. count_live_lem time (ready count_takes _ c.in_ok-options.ensures) c.if-options.true

pub returns : goal.returns
returns c = λ time. count_held_lem time (ready count_takes _ c.in_ok-options.ensures) c.if-options.false
