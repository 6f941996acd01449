use Prim.Native.Nat.{◌+◌}
use native.Mathlib.Omega.{arith}
use Rattle.commands.proofs.FieldLoops.{words_from}
use Rattle.commands.proofs.PairLoops.{named_from, next_named, none_named_lem, few_named, repeating_few, repeating_hit, repeating_skip, repeating_ends}
use Rattle.commands.proofs.pairs.repeats.Goals as goal
use Rattle.commands.proofs.pairs.repeats.Goals.{then-equal, else-equal}

pub loop-j-init : goal.loop-j-init
loop-j-init c = (record { sum = omega arith }, c.word-field.ensures)

pub overflow_add-n : goal.overflow_add-n
overflow_add-n c = omega (arith, repeating_few c.loop-j.invariant.0, few_named c.args.pairs.now (c.args.i + 1), c.len-count.ensures.most)

pub loop-j-preserved : goal.loop-j-preserved
loop-j-preserved c =
    let now = c.loop-j.invariant in let next = next_named _ _ (rw c.len-count.ensures.value at c.loop-j-test.true) c.word.ensures in
    elim c.if-equal.branch [
      | then-equal w ↦ rw w.n-is (repeating_hit now.0 next c.equal.ensures w.if-equal.true, now.1)
      | else-equal w ↦ rw w.n-is (repeating_skip now.0 next c.equal.ensures w.if-equal.false, now.1)
    ]

pub returns : goal.returns
unfolding words_from named_from
returns c = rw (← c.loop-j.invariant.1) (repeating_ends c.loop-j.invariant.0 (none_named_lem _ _ (rw c.len-count.ensures.value at c.loop-j-test.false)))
