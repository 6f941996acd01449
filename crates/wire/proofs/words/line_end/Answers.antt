use mathlib.Core.Path.{sym, ◌∙◌}
use native.Mathlib.Omega.{arith}
use Rattle.wire.proofs.WordPlaces.{line_here, line_on, line_past}
use Rattle.wire.proofs.words.line_end.Goals as goal

pub returns-then-s-i-eq13 : goal.returns-then-s-i-eq13
returns-then-s-i-eq13 c = line_here _ _ c.loop-i-test.true c.if-s-i-eq13.true ∙ c.loop-i.invariant

pub loop-i-preserved : goal.loop-i-preserved
loop-i-preserved c = sym (line_on _ _ c.loop-i-test.true c.if-s-i-eq13.false) ∙ c.loop-i.invariant

pub returns : goal.returns
returns c = grind (arith, line_past c.args.s.now c.args.from, line_past c.args.s.now c.loop-i.i, c.loop-i.invariant, c.max.ensures)
