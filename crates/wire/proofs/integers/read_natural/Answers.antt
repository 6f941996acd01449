use mathlib.Core.Path.{sym, ◌∙◌}
use native.Mathlib.Omega.{arith}
use borrow.Author.Tests.{ltb-false}
use mathlib.Core.Logic.{⊎_elim}
use Rattle.wire.proofs.IntegerReading.{digit_is, read_empty, read_zero, reading_begins, reading_digit, reading_other, reading_above, reading_ends}
use Rattle.wire.proofs.integers.read_natural.Goals as goal
use Rattle.wire.proofs.integers.read_natural.Goals.{then-most-d-via-then-most-d, then-most-d-via-else-most-d+then-most-d-2}

pub returns-then-s-eq0 : goal.returns-then-s-eq0
returns-then-s-eq0 c = read_empty c.args.most c.args.s.now c.if-s-eq0.true

pub returns-then-s-gt1 : goal.returns-then-s-gt1
returns-then-s-gt1 c = read_zero c.args.most c.args.s.now c.if-s-eq48.true c.if-s-gt1.true

pub loop-c-init : goal.loop-c-init
loop-c-init c =
    reading_begins c.args.most c.args.s.now (omega arith)
    (⊎_elim (λ w e l. omega (arith, w.1)) (λ w e l. w e) c.else-s-eq48.either)

pub returns-then-not-is_ascii_digit : goal.returns-then-not-is_ascii_digit
returns-then-not-is_ascii_digit c = reading_other c.loop-c.invariant c.loop-c-test.true (sym (digit_is _) ∙ sym c.is_ascii_digit.ensures.value ∙ c.if-not-is_ascii_digit.true)

pub returns-then-most-d : goal.returns-then-most-d
returns-then-most-d c =
    reading_above c.loop-c.invariant c.loop-c-test.true
    (elim c.then-most-d.branch [ then-most-d-via-then-most-d w ↦ omega arith | then-most-d-via-else-most-d+then-most-d-2 w ↦ omega arith ])

pub loop-c-preserved : goal.loop-c-preserved
loop-c-preserved c =
    reading_digit c.loop-c.invariant c.loop-c-test.true (sym (digit_is _) ∙ sym c.is_ascii_digit.ensures.value ∙ c.if-not-is_ascii_digit.false) (omega (arith, ltb-false))

pub returns : goal.returns
returns c = reading_ends c.loop-c.invariant c.loop-c-test.false
