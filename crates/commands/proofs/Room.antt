-- How many slots are empty or dead, before and after an entry is put.
use Rattle.std.specs.Prelude.{Option, None, Some}
use mathlib.Core.Path.{◌≡◌, refl, ap}
use mathlib.Core.Bool.{Bool, true, false, cond}
use mathlib.Core.List.{List, [], ◌∷◌}
use Prim.Native.Nat.{ℕ, zero, suc, ◌<◌}
use lib.ListN.{length, get_or, set}
use native.Mathlib.Omega.{arith}
use Rattle.wire.specs.Lists.{any, keep, or_else}
use Rattle.wire.proofs.Lists.{any_none}
use Rattle.store.specs.Store.{Slot, holds}
use Rattle.store.specs.Time.{live_slot, dead_slot, empty_slot, room_slot, lowest_slot, slot_for}
use Rattle.store.proofs.Slots.{lowest_none}
use Rattle.commands.specs.Execute.{room}

module _ {A : Type 0} (p : A → Bool) (d x : A) where
  -- Setting an element of which p says the same changes neither whether p holds of some nor how many are kept.
  pub any_set : (xs : List A) (i : ℕ) → p x ≡ p (get_or xs i d) → any p (set xs i x) ≡ any p xs
  unfolding any
  any_set [] i h = refl
  any_set (y ∷ ys) zero h = rw h
  any_set (y ∷ ys) (suc i) h = rw (any_set ys i h)

  pub keep_set : (xs : List A) (i : ℕ) → p x ≡ p (get_or xs i d) → length (keep p (set xs i x)) ≡ length (keep p xs)
  unfolding keep
  keep_set [] i h = refl
  keep_set (y ∷ ys) zero h = rw h (go (p y))
    where
      go : (t : Bool) → length (cond t (x ∷ keep p ys) (keep p ys)) ≡ length (cond t (y ∷ keep p ys) (keep p ys))
      go true = refl
      go false = refl
  keep_set (y ∷ ys) (suc i) h = go (p y) (keep_set ys i h)
    where
      go : (t : Bool) → length (keep p (set ys i x)) ≡ length (keep p ys)
          → length (cond t (y ∷ keep p (set ys i x)) (keep p (set ys i x))) ≡ length (cond t (y ∷ keep p ys) (keep p ys))
      go true q = ap suc q
      go false q = q

  -- Setting one that is not kept where one was kept leaves one less.
  pub keep_set_less : (xs : List A) (i : ℕ) → i < length xs → p (get_or xs i d) ≡ true → p x ≡ false
      → length (keep p xs) ≡ suc (length (keep p (set xs i x)))
  unfolding keep
  keep_set_less [] i l h n = absurd (omega arith)
  keep_set_less (y ∷ ys) zero l h n = rw (h, n)
  keep_set_less (y ∷ ys) (suc i) l h n = go (p y) (keep_set_less ys i (omega arith) h n)
    where
      go : (t : Bool) → length (keep p ys) ≡ suc (length (keep p (set ys i x)))
          → length (cond t (y ∷ keep p ys) (keep p ys)) ≡ suc (length (cond t (y ∷ keep p (set ys i x)) (keep p (set ys i x))))
      go true q = ap suc q
      go false q = q

-- Where p holds of no element, none is kept.
pub keep_none : {A : Type 0} (p : A → Bool) (d : A) (xs : List A) → ((i : ℕ) → i < length xs → p (get_or xs i d) ≡ false) → length (keep p xs) ≡ 0
unfolding keep
keep_none p d [] h = refl
keep_none p d (x ∷ xs) h = rw (h 0 (omega arith)) (keep_none p d xs (λ i l. h (suc i) (omega arith)))

-- a slot that is neither empty nor dead is live
room_slot_lem : (now : ℕ) (s : Slot) → empty_slot s ≡ false → dead_slot now s ≡ false → room_slot now s ≡ false
unfolding empty_slot dead_slot room_slot live_slot or_else
room_slot_lem now None e d = cc
room_slot_lem now (Some x) e d = d

-- A name is given no slot only where none holds it and none is empty or dead.
pub slot_none : (now : ℕ) (k f : List ℕ) (ss : List Slot) → slot_for now k f ss ≡ None → (any (holds k f) ss ≡ false) × (room now ss ≡ 0)
unfolding slot_for or_else room
slot_none now k f ss = go (lowest_slot (holds k f) ss) refl (lowest_slot empty_slot ss) refl
  where
    go : (a : Option ℕ) → lowest_slot (holds k f) ss ≡ a → (b : Option ℕ) → lowest_slot empty_slot ss ≡ b
        → or_else a (or_else b (lowest_slot (dead_slot now) ss) Some) Some ≡ None → (any (holds k f) ss ≡ false) × (room now ss ≡ 0)
    go (Some i) a b e h = (cc, cc)
    go None a (Some i) e h = (cc, cc)
    go None a None e h = (
      any_none (holds k f) ss None (lowest_none (holds k f) ss a),
      keep_none (room_slot now) None ss
          (λ i l. room_slot_lem now (get_or ss i None) (lowest_none empty_slot ss e i l) (lowest_none (dead_slot now) ss h i l)),
    )
