use mathlib.Core.Path.{sym, ◌∙◌}
use Rattle.commands.proofs.PairLoops.{times_few, telling_all, telling_none}
use Rattle.commands.proofs.pairs.relevant_repeats.Goals as goal

pub returns-then-held-len : goal.returns-then-held-len
returns-then-held-len c =
    telling_none (sym c.is_some.ensures ∙ c.if-is_some.true) (rw c.len.ensures.value at c.if-held-len.true) (times_few c.args.pairs.now c.args.i)

pub returns : goal.returns
returns c = telling_all c.repeats.ensures
