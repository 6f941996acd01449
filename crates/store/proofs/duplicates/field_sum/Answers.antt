use native.Mathlib.Omega.{arith}
use Rattle.store.specs.Promises.{field_sum}
use Rattle.store.proofs.duplicates.field_sum.Goals as goal

pub returns : goal.returns
unfolding field_sum
returns c = record { value = rw (c.halves.ensures.value, c.halves-2.ensures.value, c.halves-3.ensures.value, c.halves-4.ensures.value); upper_bound = omega (arith, c.halves.ensures.upper_bound, c.halves-2.ensures.upper_bound, c.halves-3.ensures.upper_bound, c.halves-4.ensures.upper_bound) }
