use native.Mathlib.Omega.{arith}
use Rattle.store.proofs.Comparing.{words_begin, words_differ, words_go_on, words_end}
use Rattle.store.proofs.slot.word_compared.Goals as goal

pub loop-n-init : goal.loop-n-init
loop-n-init c = words_begin _ _

pub returns-then-a-b : goal.returns-then-a-b
returns-then-a-b c = omega (arith, words_differ c.loop-n.invariant c.loop-n-test.true c.if-a-b.true)

pub loop-n-preserved : goal.loop-n-preserved
loop-n-preserved c = words_go_on c.loop-n.invariant c.loop-n-test.true c.if-a-b.false

pub returns : goal.returns
returns c = words_end c.loop-n.invariant c.loop-n-test.false
