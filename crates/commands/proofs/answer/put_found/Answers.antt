use Rattle.store.specs.Store.{decode, entry_at}
use Rattle.commands.proofs.Answers.{found_room, laid_reply, value_reply, length_reply, exists_reply, versioned_reply, version_reply, seconds_reply, milliseconds_reply}
use Rattle.commands.proofs.answer.put_found.Goals as goal

pub put_bulk-requires : goal.put_bulk-requires
put_bulk-requires c =
    found_room c.args.time c.args.question c.requires.0 c.requires.1 (value_reply c.args.time (entry_at (decode c.args.bytes.now).slots c.args.i) c.in-Value.is c.value.ensures)

pub put_number-requires : goal.put_number-requires
put_number-requires c =
    found_room c.args.time c.args.question c.requires.0 c.requires.1 (length_reply c.args.time (entry_at (decode c.args.bytes.now).slots c.args.i) c.in-Length.is c.value-in-Length.ensures)

pub put_number-requires-in-Exists : goal.put_number-requires-in-Exists
put_number-requires-in-Exists c = found_room c.args.time c.args.question c.requires.0 c.requires.1 (exists_reply c.args.time (entry_at (decode c.args.bytes.now).slots c.args.i) c.in-Exists.is)

pub put_number-requires-in-Version : goal.put_number-requires-in-Version
put_number-requires-in-Version c =
    found_room c.args.time c.args.question c.requires.0 c.requires.1 (version_reply c.args.time (entry_at (decode c.args.bytes.now).slots c.args.i) c.in-Version.is c.version.ensures)

pub put_integer-requires : goal.put_integer-requires
put_integer-requires c =
    found_room c.args.time c.args.question c.requires.0 c.requires.1 (seconds_reply c.args.time (entry_at (decode c.args.bytes.now).slots c.args.i) c.in-Seconds.is c.expiry.ensures c.time_left.ensures)

pub put_integer-requires-in-Milliseconds : goal.put_integer-requires-in-Milliseconds
put_integer-requires-in-Milliseconds c =
    found_room c.args.time c.args.question c.requires.0 c.requires.1 (milliseconds_reply c.args.time (entry_at (decode c.args.bytes.now).slots c.args.i) c.in-Milliseconds.is c.expiry-in-Milliseconds.ensures c.time_left-in-Milliseconds.ensures)

pub returns-in-Value : goal.returns-in-Value
returns-in-Value c =
    laid_reply (value_reply c.args.time (entry_at (decode c.args.bytes.now).slots c.args.i) c.in-Value.is c.value.ensures) c.put_bulk.ensures

pub returns-in-Length : goal.returns-in-Length
returns-in-Length c =
    laid_reply (length_reply c.args.time (entry_at (decode c.args.bytes.now).slots c.args.i) c.in-Length.is c.value-in-Length.ensures) c.put_number.ensures

pub returns-in-Exists : goal.returns-in-Exists
returns-in-Exists c = laid_reply (exists_reply c.args.time (entry_at (decode c.args.bytes.now).slots c.args.i) c.in-Exists.is) c.put_number-in-Exists.ensures

pub returns-in-Versioned : goal.returns-in-Versioned
returns-in-Versioned c = laid_reply (versioned_reply c.args.time (entry_at (decode c.args.bytes.now).slots c.args.i) c.in-Versioned.is) c.put_versioned.ensures

pub returns-in-Version : goal.returns-in-Version
returns-in-Version c =
    laid_reply (version_reply c.args.time (entry_at (decode c.args.bytes.now).slots c.args.i) c.in-Version.is c.version.ensures) c.put_number-in-Version.ensures

pub returns-in-Seconds : goal.returns-in-Seconds
returns-in-Seconds c =
    laid_reply (seconds_reply c.args.time (entry_at (decode c.args.bytes.now).slots c.args.i) c.in-Seconds.is c.expiry.ensures c.time_left.ensures) c.put_integer.ensures

pub returns-in-Milliseconds : goal.returns-in-Milliseconds
returns-in-Milliseconds c =
    laid_reply (milliseconds_reply c.args.time (entry_at (decode c.args.bytes.now).slots c.args.i) c.in-Milliseconds.is c.expiry-in-Milliseconds.ensures c.time_left-in-Milliseconds.ensures) c.put_integer-in-Milliseconds.ensures
