-- The definitions give every row of the paper's worked streams.
use mathlib.Core.Path.{◌≡◌, refl}
use mathlib.Core.List.{map}
use Rattle.feeder.specs.Record.{record_of, record_bytes}
use Rattle.feeder.specs.Examples.{whole_example, given, expected, worked_streams}
use Rattle.feeder.proofs.Computing.{computing}

-- each stream's replies, bytes skipped, rest and store
pub worked_streams_lem : map given worked_streams ≡ map expected worked_streams
unfolding computing
worked_streams_lem = refl

-- the bytes of the example are those of the record that it says
pub whole_example_lem : record_bytes (record_of 31 whole_example) ≡ whole_example
unfolding computing
whole_example_lem = refl
