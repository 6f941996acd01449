use native.Mathlib.Omega.{arith}
use Rattle.store.proofs.Changes.{clock_laid}
use Rattle.store.proofs.ReadAt.{header_inside}
use Rattle.store.proofs.change.set_clock.Goals as goal

pub slice_bounds-write_le-end : goal.slice_bounds-write_le-end
slice_bounds-write_le-end c = omega (arith, header_inside c.args.store.now c.requires.0)

pub returns : goal.returns
returns c = clock_laid c.args.store.now c.requires.0 c.args.time c.write_le.new.s c.requires.1 c.write_le.ensures
