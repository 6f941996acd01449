use native.Mathlib.Omega.{arith}
use Rattle.wire.proofs.ReplyLaying.{laid_length, laid_within}
use Rattle.compare.proofs.LineTexts.{spaced_first, spaced_inside, spaced_room, spaced_laid}
use Rattle.compare.proofs.line.put_spaced.Goals as goal

pub bounds-out-0 : goal.bounds-out-0
bounds-out-0 c = spaced_first _ _ c.requires

pub slice_bounds-write_natural-count : goal.slice_bounds-write_natural-count
slice_bounds-write_natural-count c = spaced_inside _ _ c.requires

pub slice_bounds-write_natural-start : goal.slice_bounds-write_natural-start
slice_bounds-write_natural-start c = spaced_inside _ _ c.requires

pub write_natural-requires : goal.write_natural-requires
write_natural-requires c = spaced_room _ _ c.requires

pub overflow_add-result : goal.overflow_add-result
overflow_add-result c = omega (arith, laid_within (spaced_laid _ _ c.requires c.write_natural.ensures) c.requires)

pub shape_of-out : goal.shape_of-out
shape_of-out c = laid_length (spaced_laid _ _ c.requires c.write_natural.ensures) c.requires

pub returns : goal.returns
returns c = spaced_laid _ _ c.requires c.write_natural.ensures
