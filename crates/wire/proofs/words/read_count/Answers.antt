use mathlib.Core.Path.{sym, ◌∙◌}
use Prim.Native.Nat.{◌+◌}
use native.Mathlib.Omega.{arith}
use borrow.Author.Tests.{not-true, not-false}
use Rattle.wire.proofs.WordPlaces.{line_inside, ends_room, counted_past, counted_mark, counted_line, counted_value, counted_refused}
use Rattle.wire.proofs.words.read_count.Goals as goal

-- The line from the mark on: its end by `line_end`, its digits by `read_natural`.
pub returns-then-s-at : goal.returns-then-s-at
returns-then-s-at c = counted_past c.args.s.now c.args.at _ _ c.if-s-at.true

pub returns-then-s-at-2 : goal.returns-then-s-at-2
returns-then-s-at-2 c = counted_mark c.args.s.now _ _ c.args.most c.if-s-at.false c.if-s-at-2.true

pub ends_line-requires : goal.ends_line-requires
ends_line-requires c = rw c.line_end-end.ensures (line_inside _ (c.args.at + 1) (omega arith))

pub returns-then-not-ends_line : goal.returns-then-not-ends_line
returns-then-not-ends_line c = counted_line _ _ _ _ c.if-s-at.false c.if-s-at-2.false _ c.line_end-end.ensures (sym c.ends_line.ensures ∙ not-true _ c.if-not-ends_line.true-raw)

pub slice_bounds-read_natural-end : goal.slice_bounds-read_natural-end
slice_bounds-read_natural-end c = omega (arith, ends_room _ _ (sym c.ends_line.ensures ∙ not-false _ c.if-not-ends_line.false-raw))

pub returns : goal.returns
returns c = counted_value _ _ _ _ c.if-s-at.false c.if-s-at-2.false _ c.line_end-end.ensures _ (sym c.ends_line.ensures ∙ not-false _ c.if-not-ends_line.false-raw) (sym c.in_ok-n.was ∙ c.read_natural.ensures)

pub returns-in_err-n : goal.returns-in_err-n
returns-in_err-n c = c.from_residual.ensures ∙ counted_refused _ _ _ _ c.if-s-at.false c.if-s-at-2.false _ c.line_end-end.ensures (sym c.ends_line.ensures ∙ not-false _ c.if-not-ends_line.false-raw) (sym c.in_err-n.was ∙ c.read_natural.ensures)
