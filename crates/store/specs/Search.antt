-- The bytes that the search for a key and a field compares (02, M-103).
use Rattle.std.specs.Prelude.{Bool, true, cond, not, ◌||◌, List, [], ◌∷◌, ◌++◌, ℕ, suc, ◌+◌, eqb, length}
use Rattle.wire.specs.Lists.{or_else}
use Rattle.store.specs.Store.{Slot, holds}

-- "Skip a slot as soon as it is empty or its key or field length differs"
unfoldable pub skipped : List ℕ → List ℕ → Slot → Bool
skipped k f s = or_else s true (λ e. not (eqb (length e.key) (length k)) || not (eqb (length e.field) (length f)))

-- of two runs as long as each other, from the left: "those up to and with the first that differs, or all"
unfoldable pub run_compared : List ℕ → List ℕ → ℕ
run_compared [] t = 0
run_compared (x ∷ s) [] = 0
run_compared (x ∷ s) (y ∷ t) =
    let rest : ℕ = run_compared s t in
    cond (eqb x y) (suc rest) 1

-- "none for a slot skipped, else those .., key before field"
unfoldable pub slot_compared : List ℕ → List ℕ → Slot → ℕ
slot_compared k f s = cond (skipped k f s) 0 (or_else s 0 (λ e. run_compared (e.key ++ e.field) (k ++ f)))

-- "slots in ascending order and ended by a match"
unfoldable pub compared : List ℕ → List ℕ → List Slot → ℕ
compared k f [] = 0
compared k f (s ∷ ss) =
    let later : ℕ = compared k f ss in
    slot_compared k f s + cond (holds k f s) 0 later
