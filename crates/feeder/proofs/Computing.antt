-- To compute with the definitions of feeder: whoever unfolds `computing` unfolds them all, and those of the crates below.
use Rattle.commands.proofs.Computing as commands
use Rattle.feeder.specs.Record.{command_length, head_of, record_of, record_bytes}
use Rattle.feeder.specs.Stream.{divided_at, divide_after, divide, do_all, meaning}
use Rattle.feeder.specs.Parts.{parts_at, parts_after, parts, part_bytes, records_of, is_stray, record_sizes}
use Rattle.feeder.specs.State.{state_of, fresh, waiting_in, is_left}
use Rattle.feeder.specs.Absorb.{placed_at, first_record, offered, keeping, completing, absorb}
use Rattle.feeder.specs.Pieces.{untaken, counted, next, absorb_all}
use Rattle.feeder.specs.Feed.{checks, refusing, doing, answering, feed}
use Rattle.feeder.specs.Calls.{begin, tally, answer_to, call_all, accepted_pieces, done_for, uncut, offering, offering_all}
use Rattle.feeder.specs.Examples.{whole_example, empty_at, given, expected, worked_streams}

unfoldable pub computing : Unit {0}
unfolding commands.computing command_length head_of record_of record_bytes divided_at divide_after divide do_all meaning parts_at parts_after parts part_bytes records_of is_stray record_sizes state_of fresh waiting_in is_left placed_at first_record offered keeping completing absorb untaken counted next absorb_all checks refusing doing answering feed begin tally answer_to call_all accepted_pieces done_for uncut offering offering_all whole_example empty_at given expected worked_streams
computing = tt
