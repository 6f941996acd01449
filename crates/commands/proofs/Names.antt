-- How many of some fields are not held yet, and what an entry put among the slots does to that number.
use mathlib.Core.Path.{◌≡◌, refl, ap, ◌∙◌}
use mathlib.Core.Bool.{Bool, true, false, cond, not, ◌||◌}
use mathlib.Core.List.{List, [], ◌∷◌, map}
use Prim.Native.Nat.{ℕ, suc}
use Rattle.wire.specs.Lists.{any, or_else}
use Rattle.wire.specs.Bytes.{same}
use Rattle.wire.specs.Words.{Word}
use Rattle.wire.proofs.Lists.{or_late}
use Rattle.wire.proofs.ByteLaws.{same_refl, same_true, same_sym}
use Rattle.store.specs.Store.{Entry, Slot, holds}
use Rattle.store.specs.Time.{entry_of, put}
use Rattle.commands.specs.declared.Versioning.TheVariants.{Next}
use Rattle.commands.specs.declared.Lifetime.TheVariants.{Clear}
use Rattle.commands.specs.Command.{Pair}
use Rattle.commands.specs.Effect.{written, writes_of}
use Rattle.commands.specs.Execute.{writes, adds, added}
use Rattle.commands.specs.Promises.{missing}

-- whether a field is among some, and whether it is held
abbrev pub named : Word → List Word → Bool
named f fs = any (λ g. same g f) fs

abbrev pub held_in : Word → Word → List Slot → Bool
held_in k f ss = any (holds k f) ss

-- The same, asked the other way round.
pub named_flip : (f : Word) (fs : List Word) → any (same f) fs ≡ named f fs
unfolding any
named_flip f [] = refl
named_flip f (g ∷ gs) = rw (same_sym f g, named_flip f gs)

-- the entry that a pair of a field and a value writes
abbrev pub pair_entry : Word → Word → Word → List Slot → Entry
pair_entry k f v ss = written k f v Next Clear (entry_of k f ss)

writes_named : (now : ℕ) (k f : Word) (ps : List Pair) (ss : List Slot) → any (writes k f) (writes_of now k ps ss) ≡ named f (map (λ p. p.field) ps)
unfolding writes_of any writes written holds or_else
writes_named now k f [] ss = refl
writes_named now k f (p ∷ ps) ss = rw (same_refl k, writes_named now k f ps (put now _ ss))

-- The fields that an EXHMSET would add are those of its fields that are not held.
pub added_missing : (now : ℕ) (k : Word) (ps : List Pair) (before ss : List Slot)
    → added (writes_of now k ps before) ss ≡ missing k (map (λ p. p.field) ps) ss
unfolding writes_of added adds missing written
added_missing now k [] before ss = refl
added_missing now k (p ∷ ps) before ss =
    let e : Entry = pair_entry k p.field p.value before in
    rw (writes_named now k p.field ps (put now e before), added_missing now k ps (put now e before) ss)

less : (b u : Bool) (n m : ℕ) → cond (not b) (suc n) n ≡ suc m
    → cond (not b) (suc (cond u (suc n) n)) (cond u (suc n) n) ≡ suc (cond u (suc m) m)
less true true n m h = ap suc h
less true false n m h = h
less false true n m h = ap suc h
less false false n m h = h

module _ (k : Word) (ss after : List Slot) where
  -- Slots that hold the same of the fields lack as many.
  pub missing_same : (fs : List Word) → ((g : Word) → named g fs ≡ true → held_in k g after ≡ held_in k g ss) → missing k fs after ≡ missing k fs ss
  unfolding missing any
  missing_same [] h = refl
  missing_same (f ∷ fs) h =
      rw (h f (rw (same_refl f)), missing_same fs (λ g n. h g (or_late (same f g) n)))

  -- Slots that hold one field more lack one less.
  pub missing_less : (f : Word) (fs : List Word) → held_in k f ss ≡ false → held_in k f after ≡ true
      → ((g : Word) → named g fs ≡ true → same f g ≡ false → held_in k g after ≡ held_in k g ss)
      → missing k (f ∷ fs) ss ≡ suc (missing k fs after)
  unfolding missing any
  missing_less f [] n y h = rw n
  missing_less f (g ∷ gs) n y h = rw n (go (same g f) refl (missing_less f gs n y (λ x m. h x (or_late (same g x) m))))
    where
      go : (t : Bool) → same g f ≡ t → missing k (f ∷ gs) ss ≡ suc (missing k gs after)
          → cond (not (t || named f gs)) (suc (missing k (g ∷ gs) ss)) (missing k (g ∷ gs) ss) ≡ suc (missing k (g ∷ gs) after)
      go true q ih = rw (same_true g f q, y) ih
      go false q ih =
          rw (h g (rw (same_refl g)) (same_sym f g ∙ q))
          (less (named f gs) (not (held_in k g ss || named g gs)) (missing k gs ss) (missing k gs after) (rw n at ih))
