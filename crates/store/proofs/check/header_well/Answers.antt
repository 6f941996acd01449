use mathlib.Core.Bool.{and-true}
use Rattle.wire.specs.Lists.{every}
use Rattle.wire.specs.Bytes.{part}
use Rattle.store.specs.Layout.{time_limit}
use Rattle.store.specs.Store.{clock_of, header_tests}
use borrow.Author.Tests.{lt-ltb, le-ltb}
use Rattle.store.proofs.check.header_well.Goals as goal

pub returns-then-read_le-lt-TIME_LIMIT : goal.returns-then-read_le-lt-TIME_LIMIT
unfolding header_tests every clock_of part
returns-then-read_le-lt-TIME_LIMIT c = rw (← c.read_le.ensures, lt-ltb c.read_le.result time_limit c.if-read_le-lt-TIME_LIMIT.true, and-true) c.all_zero.ensures

pub returns-else-read_le-lt-TIME_LIMIT : goal.returns-else-read_le-lt-TIME_LIMIT
unfolding header_tests every clock_of part
returns-else-read_le-lt-TIME_LIMIT c = rw (← c.read_le.ensures, le-ltb c.read_le.result time_limit c.if-read_le-lt-TIME_LIMIT.false)
