use native.Mathlib.Omega.{arith}
use mathlib.Core.Path.{refl}
use Rattle.store.specs.Layout.{value_start}
use Rattle.store.proofs.ReadAt.{held_few}
use Rattle.store.proofs.read.value_start.Goals as goal

pub overflow_mul-result : goal.overflow_mul-result
overflow_mul-result c = omega (arith, held_few c.requires)

pub overflow_add-result : goal.overflow_add-result
overflow_add-result c = omega (arith, held_few c.requires)

pub overflow_add-result-2 : goal.overflow_add-result-2
overflow_add-result-2 c = omega (arith, held_few c.requires)

pub returns : goal.returns
unfolding value_start
returns c = refl
