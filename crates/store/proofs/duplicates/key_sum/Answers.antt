use native.Mathlib.Omega.{arith}
use Rattle.store.specs.Promises.{key_sum}
use Rattle.store.proofs.duplicates.key_sum.Goals as goal

pub returns : goal.returns
unfolding key_sum
returns c = record { value = rw (c.halves.ensures.value, c.halves-2.ensures.value); upper_bound = omega (arith, c.halves.ensures.upper_bound, c.halves-2.ensures.upper_bound) }
