-- The test that no two held slots have the same key and field, and what it says.
use Rattle.std.specs.Prelude.{None}
use mathlib.Core.Path.{◌≡◌, refl}
use mathlib.Core.Bool.{true, false, not}
use mathlib.Core.List.{List, [], ◌∷◌}
use Prim.Native.Nat.{zero, suc}
use native.Mathlib.Omega.{arith}
use borrow.Author.Tests.{not-true}
use Rattle.wire.specs.Lists.{any}
use Rattle.wire.proofs.Lists.{and_left, and_right, any_at, any_none}
use Rattle.store.specs.Store.{Slot, clash, distinct}
use Rattle.store.specs.Valid.{Apart}
use Rattle.store.proofs.Slots.{each_slot, none_clash, clash_none}

-- the test passes: no two slots have the same key and field
pub distinct_apart : (ss : List Slot) → distinct ss ≡ true → Apart ss
unfolding distinct
distinct_apart [] h i j l = none_clash None
distinct_apart (s ∷ ss) h i zero l = absurd (omega arith)
distinct_apart (s ∷ ss) h zero (suc j) l = each_slot (λ t. clash s t ≡ false) ss (clash_none s) (any_at (clash s) ss None (not-true (any (clash s) ss) (and_left (not (any (clash s) ss)) (distinct ss) h))) j
distinct_apart (s ∷ ss) h (suc i) (suc j) l = distinct_apart ss (and_right (not (any (clash s) ss)) (distinct ss) h) i j (omega arith)

-- no two slots have the same key and field: the test passes
pub apart_distinct : (ss : List Slot) → Apart ss → distinct ss ≡ true
unfolding distinct
apart_distinct [] a = refl
apart_distinct (s ∷ ss) a =
    rw (any_none (clash s) ss None (λ j l. a 0 (suc j) (omega arith)), apart_distinct ss (λ i j l. a (suc i) (suc j) (omega arith)))
