use mathlib.Core.Path.{refl}
use Rattle.commands.proofs.FieldLoops.{sweeping_on, sweeping_ends, all_firsts, next_first, no_first}
use borrow.Author.Rules.{rules}
use Rattle.commands.proofs.act.sweep.Goals as goal

pub loop-i-init : goal.loop-i-init
loop-i-init g c = (record { well = c.requires.0; same = rw all_firsts refl }, refl)

pub look-found-requires : goal.look-found-requires
look-found-requires g c = c.loop-i.invariant.0.well

pub loop-i-preserved : goal.loop-i-preserved
loop-i-preserved g c = (sweeping_on c.loop-i.invariant.0 (next_first _ _ _ (rw c.len-i-end.ensures.value at c.loop-i-test.true) c.word.ensures) c.look-found.ensures.0, search rules)

pub returns : goal.returns
returns g c = sweeping_ends c.loop-i.invariant.0 (no_first _ _ _ (rw c.len-i-end.ensures.value at c.loop-i-test.false))
