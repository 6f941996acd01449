use native.Mathlib.Omega.{arith}
use Rattle.wire.proofs.ReplyLaws.{length_bulk}
use Rattle.programs.proofs.put_word.Goals.{then-longest-lt100, else-longest-lt100}
use Rattle.programs.proofs.put_word.Goals as goal

-- A word of two digits of length takes at most seven bytes more, one of three at most eight.
pub put_bulk-requires : goal.put_bulk-requires
put_bulk-requires c =
    elim c.if-longest-lt100.branch [
      | then-longest-lt100 w ↦ omega (arith, length_bulk 2 c.args.word.now (omega arith) (omega arith))
      | else-longest-lt100 w ↦ omega (arith, length_bulk 3 c.args.word.now (omega arith) (omega arith))
    ]

pub returns-clause-within : goal.returns-clause-within
returns-clause-within c =
    elim c.if-longest-lt100.branch [
      | then-longest-lt100 w ↦ omega (arith, c.put_bulk.ensures.size, length_bulk 2 c.args.word.now (omega arith) (omega arith))
      | else-longest-lt100 w ↦ omega (arith, c.put_bulk.ensures.size, length_bulk 3 c.args.word.now (omega arith) (omega arith))
    ]

pub returns-clause-size : goal.returns-clause-size
returns-clause-size c = omega (arith, c.put_bulk.ensures.size, length_bulk 3 c.args.word.now (omega arith) (omega arith))
