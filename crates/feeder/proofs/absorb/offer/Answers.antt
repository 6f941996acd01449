use mathlib.Core.Path.{sym}
use native.Mathlib.Omega.{arith}
use lib.Seq.{length-take-le}
use Rattle.feeder.specs.Absorb.{used_most}
use Rattle.feeder.proofs.absorb.offer.Goals as goal

pub slice_bounds-result-end : goal.slice_bounds-result-end
slice_bounds-result-end c = sym (length-take-le used_most c.args.piece.now (omega arith))
