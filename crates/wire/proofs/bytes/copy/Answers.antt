use mathlib.Core.Path.{◌∙◌}
use native.Mathlib.Omega.{arith}
use Rattle.wire.proofs.ReplyLaying.{fill_begins, fill_part, fill_last}
use Rattle.wire.proofs.bytes.copy.Goals as goal
use Rattle.wire.proofs.bytes.copy.Goals.{else-loop-i-test, then-loop-i-test+else-last-i-gt8}

pub loop-i-init : goal.loop-i-init
loop-i-init c = fill_begins _ _ c.requires

pub loop-i-preserved : goal.loop-i-preserved
loop-i-preserved c = rw c.copy_word.ensures (fill_part _ _ _ _ 8 _ c.loop-i.invariant (omega arith) (omega arith) (omega arith))

pub returns : goal.returns
returns c =
    c.copy_word-2.ensures ∙ elim c.loop-i-test.branch [
      | else-loop-i-test w ↦ rw w.to-is (fill_last _ _ _ 8 _ c.loop-i.invariant c.if-size-lt-WORD.false (omega arith))
      | then-loop-i-test+else-last-i-gt8 w ↦ rw (w.to-is, w.copy_word.ensures) (fill_last _ _ _ 8 _ (fill_part _ _ _ _ 8 _ c.loop-i.invariant (omega arith) (omega arith) (omega arith)) c.if-size-lt-WORD.false (omega arith))
    ]
