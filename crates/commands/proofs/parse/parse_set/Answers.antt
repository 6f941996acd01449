use Rattle.commands.proofs.Handing.{handed}
use Rattle.commands.proofs.Parsing.{not_clean, ready}
use Rattle.commands.proofs.ParseFamilies.{set_takes, set_done, set_refused}
use Rattle.commands.proofs.parse.parse_set.Goals as goal

pub returns-in_err-options : goal.returns-in_err-options
returns-in_err-options c =
    rw (handed c.from_residual.result c.from_residual.ensures.1) (not_clean set_takes _ c.in_err-options.ensures c.args.time)

pub returns-in_err-terms : goal.returns-in_err-terms
returns-in_err-terms c =
    rw (handed c.from_residual-in_err-terms.result c.from_residual-in_err-terms.ensures.1)
    (set_refused c.args.time (ready set_takes _ c.in_ok-options.ensures) _ c.read_terms.ensures c.in_err-terms.was)

pub returns : goal.returns
returns c = set_done c.args.time (ready set_takes _ c.in_ok-options.ensures) _ c.read_terms.ensures c.in_ok-terms.was c.unwrap_or-condition.ensures
