-- Entries of a key taken out of the slots one field after the other.
use Rattle.std.specs.Prelude.{None, Some}
use mathlib.Core.Path.{◌≡◌, refl, ap}
use mathlib.Core.Bool.{Bool, true, false, cond, not, ◌&&◌, ◌||◌}
use mathlib.Core.List.{List, [], ◌∷◌}
use Prim.Native.Nat.{ℕ, ◌+◌}
use native.Mathlib.Omega.{arith}
use lib.ListN.{length}
use Rattle.wire.specs.Lists.{any, keep, or_else}
use Rattle.wire.specs.Bytes.{same}
use Rattle.wire.specs.Words.{Word}
use Rattle.store.specs.Store.{Entry, Slot, Store, with_slots, holds}
use Rattle.store.specs.Time.{live, without}
use Rattle.commands.specs.Effect.{change}
use Rattle.commands.specs.Effect.Change.{remove}
use Rattle.commands.specs.Execute.{named_dead, sweep, swept}

-- ---- the dead entries

-- slots without entries of one kind, then without those of another
without_twice : (p q r : Entry → Bool) → ((e : Entry) → p e ≡ q e || r e) → (ss : List Slot) → without p ss ≡ without r (without q ss)
unfolding without or_else
without_twice p q r h [] = refl
without_twice p q r h (None ∷ ss) = ap (λ (z : List Slot). None ∷ z) (without_twice p q r h ss)
without_twice p q r h (Some e ∷ ss) = go (q e) (r e) refl (h e) (without_twice p q r h ss)
  where
    go : (a b : Bool) → r e ≡ b → p e ≡ a || b → without p ss ≡ without r (without q ss)
        → (cond (p e) None (Some e) ∷ without p ss) ≡ (or_else (cond a None (Some e)) None (λ x. cond (r x) None (Some x)) ∷ without r (without q ss))
    go true b w v rest = rw (v, rest)
    go false true w v rest = rw (v, rest, w)
    go false false w v rest = rw (v, rest, w)

split_dead : (a b c d : Bool) → (a && (b || c)) && d ≡ (((a && (b || false)) && d) || ((a && c) && d))
split_dead false b c d = refl
split_dead true false c d = refl
split_dead true true c true = refl
split_dead true true false false = refl
split_dead true true true false = refl

-- a field's dead entry, and then those of the others
pub dead_more : (now : ℕ) (k f : Word) (fs : List Word) (s : Store) → swept now k (f ∷ fs) s ≡ swept now k fs (swept now k (f ∷ []) s)
unfolding sweep named_dead any
dead_more now k f fs s =
    ap (λ (z : List Slot). with_slots z s)
    (without_twice _ _ _ (λ e. split_dead (same e.key k) (same e.field f) (any (same e.field) fs) (not (live now e))) s.slots)

without_none : (p : Entry → Bool) → ((e : Entry) → p e ≡ false) → (ss : List Slot) → without p ss ≡ ss
unfolding without or_else
without_none p h [] = refl
without_none p h (None ∷ ss) = ap (λ (z : List Slot). None ∷ z) (without_none p h ss)
without_none p h (Some e ∷ ss) = rw (h e) (ap (λ (z : List Slot). Some e ∷ z) (without_none p h ss))

-- no field is named
pub dead_none : (now : ℕ) (k : Word) (s : Store) → swept now k [] s ≡ s
unfolding sweep named_dead any
dead_none now k s =
    ap (λ (z : List Slot). with_slots z s) (without_none _ (λ e. go (same e.key k) (not (live now e))) s.slots)
  where
    go : (a b : Bool) → (a && false) && b ≡ false
    go true b = refl
    go false b = refl

-- ---- all entries of some fields

-- a slot that holds one of the fields
abbrev pub named : Word → List Word → Slot → Bool
named k fs s = any (λ f. holds k f s) fs

empty_unnamed : (k : Word) (fs : List Word) → named k fs None ≡ false
unfolding any holds or_else
empty_unnamed k [] = refl
empty_unnamed k (f ∷ fs) = empty_unnamed k fs

pub keep_unnamed : (k : Word) (ss : List Slot) → keep (named k []) ss ≡ []
unfolding keep any
keep_unnamed k [] = refl
keep_unnamed k (s ∷ ss) = keep_unnamed k ss

-- as many slots hold one of the fields as hold the first, and one of the others once the first is gone
pub count_more : (k f : Word) (fs : List Word) (now : ℕ) (ss : List Slot)
    → length (keep (named k (f ∷ fs)) ss) ≡ length (keep (holds k f) ss) + length (keep (named k fs) (change now (remove k f) ss))
unfolding keep change without or_else holds any
count_more k f fs now [] = refl
count_more k f fs now (None ∷ ss) = rw (empty_unnamed k fs) (count_more k f fs now ss)
count_more k f fs now (Some e ∷ ss) = go (same e.key k && same e.field f) (named k fs (Some e)) refl (count_more k f fs now ss)
  where
    others : List Slot
    others = keep (named k fs) (change now (remove k f) ss)

    go : (a b : Bool) → named k fs (Some e) ≡ b
        → length (keep (named k (f ∷ fs)) ss) ≡ length (keep (holds k f) ss) + length others
        → length (cond (a || b) (Some e ∷ keep (named k (f ∷ fs)) ss) (keep (named k (f ∷ fs)) ss))
        ≡ length (cond a (Some e ∷ keep (holds k f) ss) (keep (holds k f) ss))
        + length (cond (named k fs (cond a None (Some e))) (cond a None (Some e) ∷ others) others)
    go true b w q = rw (empty_unnamed k fs) (omega (arith, q))
    go false true w q = rw w (omega (arith, q))
    go false false w q = rw w q
