use borrow.Author.Tests.{lt-ltb, le-ltb}
use Rattle.wire.specs.Promises.{next_of}
use Rattle.wire.proofs.words.next_word.Goals as goal

-- A word's number is below the count of words.
pub returns-then-i-count : goal.returns-then-i-count
unfolding next_of
returns-then-i-count c = rw (lt-ltb _ _ c.if-i-count.true)

pub returns-else-i-count : goal.returns-else-i-count
unfolding next_of
returns-else-i-count c = rw (le-ltb _ _ c.if-i-count.false)
