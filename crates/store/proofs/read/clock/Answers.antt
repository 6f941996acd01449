use native.Mathlib.Omega.{arith}
use Rattle.store.specs.Store.{clock_of, decode}
use Rattle.store.proofs.ReadAt.{header_inside}
use Rattle.store.proofs.read.clock.Goals as goal

pub slice_bounds-read_le-end : goal.slice_bounds-read_le-end
slice_bounds-read_le-end c = omega (arith, header_inside c.args.store.now c.requires)

pub returns : goal.returns
unfolding decode clock_of
returns c = c.read_le.ensures
