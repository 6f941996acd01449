use Rattle.commands.proofs.Handing.{handed}
use Rattle.commands.proofs.Parsing.{not_clean, ready}
use Rattle.commands.proofs.ParseFamilies.{increment_takes, increment_unread, increment_done, increment_refused}
use Rattle.commands.proofs.parse.parse_increment.Goals as goal

pub returns-in_err-options : goal.returns-in_err-options
returns-in_err-options c =
    rw (handed c.from_residual.result c.from_residual.ensures.1) (not_clean increment_takes _ c.in_err-options.ensures c.args.time)

pub returns-in_err-sum : goal.returns-in_err-sum
returns-in_err-sum c =
    rw (handed c.from_residual-in_err-sum.result c.from_residual-in_err-sum.ensures.1)
    (increment_unread c.args.time (ready increment_takes _ c.in_ok-options.ensures) c.sum.ensures c.in_err-sum.was)

pub returns-in_err-terms : goal.returns-in_err-terms
returns-in_err-terms c =
    rw (handed c.from_residual-in_err-terms.result c.from_residual-in_err-terms.ensures.1)
    (increment_refused c.args.time (ready increment_takes _ c.in_ok-options.ensures) c.sum.ensures c.in_ok-sum.was _ c.read_terms.ensures c.in_err-terms.was)

pub returns : goal.returns
returns c =
    increment_done c.args.time (ready increment_takes _ c.in_ok-options.ensures) c.sum.ensures c.in_ok-sum.was _ c.read_terms.ensures c.in_ok-terms.was
