use mathlib.Core.Path.{◌≡◌, sym, ap, ◌∙◌}
use mathlib.Core.List.{List}
use native.Mathlib.Omega.{arith}
use lib.ListN.{length, drop}
use Rattle.wire.specs.Words.{Word}
use Rattle.wire.proofs.WordPlaces.{length_words, part_words}
use Rattle.wire.proofs.words.Words.after.Goals as goal

pub offset_bounds-self-inside-i : goal.offset_bounds-self-inside-i
offset_bounds-self-inside-i c =
    let len : length c.args.self.now ≡ length c.self.inside.places.now = ap length (sym c.self.view_is) ∙ length_words _ _ in
    omega (arith, c.self.invariant.most)

pub slice_bounds-result-count : goal.slice_bounds-result-count
slice_bounds-result-count c =
    let len : length c.args.self.now ≡ length c.self.inside.places.now = ap length (sym c.self.view_is) ∙ length_words _ _ in
    omega arith

pub slice_bounds-result-start : goal.slice_bounds-result-start
slice_bounds-result-start c =
    let len : length c.args.self.now ≡ length c.self.inside.places.now = ap length (sym c.self.view_is) ∙ length_words _ _ in
    omega arith

pub returns-clause-most : goal.returns-clause-most
returns-clause-most c =
    let len : length c.args.self.now ≡ length c.self.inside.places.now = ap length (sym c.self.view_is) ∙ length_words _ _ in
    omega (arith, c.self.invariant.most)

pub returns-clause-value : goal.returns-clause-value
returns-clause-value c = part_words _ _ c.args.i ∙ ap (λ (ws : List Word). drop c.args.i ws) c.self.view_is
