use Rattle.commands.proofs.Answers.{laid_reply, looked_held, found_reply, missing_reply}
use Rattle.commands.proofs.answer.put_answer.Goals as goal

pub put_found-requires : goal.put_found-requires
put_found-requires c = (looked_held c.args.bytes.now c.args.key.now c.args.field.now c.requires.1 c.requires.0 c.in-Some.is, c.requires.2)

pub returns-in-Some : goal.returns-in-Some
returns-in-Some c =
    laid_reply (found_reply c.args.bytes.now c.args.key.now c.args.field.now c.requires.1 c.args.time c.args.question c.requires.0 c.in-Some.is) c.put_found.ensures

pub returns-in-None : goal.returns-in-None
returns-in-None c =
    laid_reply (missing_reply c.args.bytes.now c.args.key.now c.args.field.now c.requires.1 c.args.time c.args.question c.in-None.is) c.put_missing.ensures
