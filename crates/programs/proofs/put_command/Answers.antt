use native.Mathlib.Omega.{arith}
use Rattle.wire.proofs.ReplyLaws.{length_header}
use Rattle.programs.proofs.put_command.Goals as goal

-- The header of a count of three digits has six bytes at most.
pub put_header-at-requires : goal.put_header-at-requires
put_header-at-requires c = omega (arith, length_header 3 c.count-count.result (omega arith) (omega arith))

pub slice_bounds-put_words-count : goal.slice_bounds-put_words-count
slice_bounds-put_words-count c = omega (arith, c.put_header-at.ensures.size, length_header 3 c.count-count.result (omega arith) (omega arith))

pub slice_bounds-put_words-start : goal.slice_bounds-put_words-start
slice_bounds-put_words-start c = omega (arith, c.put_header-at.ensures.size, length_header 3 c.count-count.result (omega arith) (omega arith))

pub returns : goal.returns
returns c = omega (arith, c.put_words.ensures, c.put_header-at.ensures.size, length_header 3 c.count-count.result (omega arith) (omega arith))
