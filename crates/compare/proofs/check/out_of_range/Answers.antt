use native.Mathlib.Omega.{arith}
use Rattle.store.specs.Store.{decode}
use Rattle.compare.proofs.CallChecks.{before_first, before_second, after_both}
use Rattle.compare.proofs.check.out_of_range.Goals as goal

pub returns-then-instant-clock : goal.returns-then-instant-clock
unfolding decode
returns-then-instant-clock c = before_first _ _ _ c.clock.ensures (omega (arith, c.if-instant-clock.true))

pub returns-then-instant-clock-2 : goal.returns-then-instant-clock-2
unfolding decode
returns-then-instant-clock-2 c =
    before_second _ _ _ c.clock.ensures (omega (arith, c.if-instant-clock.false)) c.clock-2.ensures (omega (arith, c.if-instant-clock-2.true))

pub returns : goal.returns
unfolding decode
returns c =
    after_both _ _ _ c.clock.ensures (omega (arith, c.if-instant-clock.false)) c.clock-2.ensures (omega (arith, c.if-instant-clock-2.false))
