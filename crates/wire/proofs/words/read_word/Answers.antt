use mathlib.Core.Path.{sym, ◌∙◌}
use native.Mathlib.Omega.{arith}
use borrow.Author.Tests.{not-true, not-false}
use Rattle.wire.proofs.WordPlaces.{ends_room, placed_damaged, start_inside, placed_short, placed_end, placed_word}
use Rattle.wire.proofs.words.read_word.Goals as goal

-- A count and CR LF say where the word stands; CR LF stands behind it.
pub returns-in_err-size : goal.returns-in_err-size
returns-in_err-size c = c.from_residual.ensures ∙ placed_damaged c.args.s.now c.args.at (sym c.in_err-size.was ∙ c.read_count.ensures)

pub overflow_sub-s : goal.overflow_sub-s
overflow_sub-s c = start_inside c.args.s.now _ c.requires _ _ (sym c.in_ok-size.was ∙ c.read_count.ensures)

pub returns-then-s-start : goal.returns-then-s-start
returns-then-s-start c = placed_short c.args.s.now _ c.requires _ _ (sym c.in_ok-size.was ∙ c.read_count.ensures) c.if-s-start.true

pub ends_line-requires : goal.ends_line-requires
ends_line-requires c = omega (arith, start_inside c.args.s.now c.args.at c.requires _ _ (sym c.in_ok-size.was ∙ c.read_count.ensures))

pub returns-then-not-ends_line : goal.returns-then-not-ends_line
returns-then-not-ends_line c = placed_end _ _ c.requires _ _ (sym c.in_ok-size.was ∙ c.read_count.ensures) (sym c.ends_line.ensures ∙ not-true _ c.if-not-ends_line.true-raw)

pub overflow_add-result : goal.overflow_add-result
overflow_add-result c = omega (arith, ends_room _ _ (sym c.ends_line.ensures ∙ not-false _ c.if-not-ends_line.false-raw))

pub returns : goal.returns
returns c = placed_word _ _ c.requires _ _ (sym c.in_ok-size.was ∙ c.read_count.ensures) (sym c.ends_line.ensures ∙ not-false _ c.if-not-ends_line.false-raw)
