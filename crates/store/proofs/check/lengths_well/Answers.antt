use native.Mathlib.Omega.{arith}
use Rattle.std.proofs.lemmas.Bool.Decides.{nat_tests}
use Rattle.wire.specs.Lists.{every}
use Rattle.store.specs.Store.{length_tests}
use Rattle.store.proofs.check.lengths_well.Goals as goal

pub returns-then-t-le-FIELD_MOST : goal.returns-then-t-le-FIELD_MOST
unfolding length_tests every
returns-then-t-le-FIELD_MOST c = grind (arith, nat_tests)

pub returns-else-t-le-FIELD_MOST : goal.returns-else-t-le-FIELD_MOST
unfolding length_tests every
returns-else-t-le-FIELD_MOST c = grind (arith, nat_tests)
