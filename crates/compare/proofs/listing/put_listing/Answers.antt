use native.Mathlib.Omega.{arith}
use Rattle.wire.proofs.ReplyLaying.{laid_length, laid_within, laid_tail, tail_inside, tail_room, front_room}
use Rattle.compare.specs.declared.Pass.TheVariants as passes
use Rattle.compare.specs.Promises.{pass_text}
use Rattle.compare.proofs.LineTexts.{listing_parts, listing_room}
use Rattle.compare.proofs.listing.put_listing.Goals as goal

pub put_lines-at-requires : goal.put_lines-at-requires
put_lines-at-requires c =
    front_room (pass_text passes.First c.args.instant c.args.first.now c.args.second.now)
    (pass_text passes.Second c.args.instant c.args.second.now c.args.first.now) (listing_room _ _ _ c.requires.second_in_bounds)

pub slice_bounds-put_lines-count : goal.slice_bounds-put_lines-count
slice_bounds-put_lines-count c =
    tail_inside (pass_text passes.Second c.args.instant c.args.second.now c.args.first.now) c.put_lines-at.ensures
    (listing_room _ _ _ c.requires.second_in_bounds)

pub slice_bounds-put_lines-start : goal.slice_bounds-put_lines-start
slice_bounds-put_lines-start c =
    tail_inside (pass_text passes.Second c.args.instant c.args.second.now c.args.first.now) c.put_lines-at.ensures
    (listing_room _ _ _ c.requires.second_in_bounds)

pub put_lines-requires : goal.put_lines-requires
put_lines-requires c =
    tail_room (pass_text passes.Second c.args.instant c.args.second.now c.args.first.now) c.put_lines-at.ensures
    (listing_room _ _ _ c.requires.second_in_bounds)

pub overflow_add-result : goal.overflow_add-result
overflow_add-result c =
    omega (arith, laid_within (laid_tail c.put_lines-at.ensures c.put_lines.ensures) (listing_room _ _ _ c.requires.second_in_bounds))

pub shape_of-out : goal.shape_of-out
shape_of-out c =
    laid_length (laid_tail c.put_lines-at.ensures c.put_lines.ensures) (listing_room _ _ _ c.requires.second_in_bounds)

pub returns : goal.returns
returns c = rw (listing_parts c.args.instant c.args.first.now c.args.second.now) (laid_tail c.put_lines-at.ensures c.put_lines.ensures)
