use Rattle.store.specs.Store.{decode}
use Rattle.commands.proofs.Answers.{missing_room, laid_reply, no_value, no_length, no_version, no_time}
use Rattle.commands.proofs.answer.put_missing.Goals as goal

pub put_nil-requires : goal.put_nil-requires
put_nil-requires c =
    missing_room c.args.time (decode c.args.bytes.now).slots c.args.key.now c.args.question c.requires.1 (no_value c.args.time (decode c.args.bytes.now).slots c.args.key.now c.in-Value.is)

pub put_number-requires : goal.put_number-requires
put_number-requires c =
    missing_room c.args.time (decode c.args.bytes.now).slots c.args.key.now c.args.question c.requires.1 (no_length c.args.time (decode c.args.bytes.now).slots c.args.key.now c.in-Length.is)

pub put_integer-requires : goal.put_integer-requires
put_integer-requires c =
    missing_room c.args.time (decode c.args.bytes.now).slots c.args.key.now c.args.question c.requires.1 (no_version c.args.time (decode c.args.bytes.now).slots c.args.key.now c.in-Version.is c.no_version.ensures)

pub put_integer-requires-in-Seconds : goal.put_integer-requires-in-Seconds
put_integer-requires-in-Seconds c =
    missing_room c.args.time (decode c.args.bytes.now).slots c.args.key.now c.args.question c.requires.1 (no_time c.args.time (decode c.args.bytes.now).slots c.args.key.now c.in-Seconds.is)

pub returns-in-Value : goal.returns-in-Value
returns-in-Value c = laid_reply (no_value c.args.time (decode c.args.bytes.now).slots c.args.key.now c.in-Value.is) c.put_nil.ensures

pub returns-in-Length : goal.returns-in-Length
returns-in-Length c = laid_reply (no_length c.args.time (decode c.args.bytes.now).slots c.args.key.now c.in-Length.is) c.put_number.ensures

pub returns-in-Version : goal.returns-in-Version
returns-in-Version c =
    laid_reply (no_version c.args.time (decode c.args.bytes.now).slots c.args.key.now c.in-Version.is c.no_version.ensures) c.put_integer.ensures

pub returns-in-Seconds : goal.returns-in-Seconds
returns-in-Seconds c = laid_reply (no_time c.args.time (decode c.args.bytes.now).slots c.args.key.now c.in-Seconds.is) c.put_integer-in-Seconds.ensures
