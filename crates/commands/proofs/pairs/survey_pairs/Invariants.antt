use Rattle.store.specs.Store.{decode}
use Rattle.commands.specs.Promises.{fields_in}
use Rattle.commands.proofs.PairLoops.{named_from, Surveying, Passing}
use Rattle.commands.proofs.pairs.survey_pairs.Given as goal

-- What is left does the same.
abbrev pub invariant-loop-i : goal.invariant-loop-i
invariant-loop-i l =
    Surveying l.key (fields_in l.pairs) (named_from l.pairs l.i) (decode l.bytes).slots l.n
    × Passing l.pairs l.bytes l.key l.i
