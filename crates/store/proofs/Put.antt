-- Laws of an entry put among the slots: what it keeps.
use Rattle.std.specs.Prelude.{Option, None, Some}
use mathlib.Core.Path.{◌≡◌, refl, sym, ◌∙◌}
use mathlib.Core.Bool.{Bool, true, false, cond}
use mathlib.Core.List.{List, [], ◌∷◌}
use Prim.Native.Nat.{ℕ, zero, suc, ◌<◌}
use native.Mathlib.Omega.{arith}
use lib.Dec.{eqb}
use borrow.Author.Tests.{eqb-true, eqb-false, not-true}
use lib.ListN.{length, get_or, set, length-set}
use lib.Seq.{get_or-set_same, get_or-set_other}
use Rattle.wire.specs.Lists.{or_else}
use Rattle.wire.proofs.Lists.{both_ways, impossible}
use Rattle.wire.proofs.ByteLaws.{same_refl}
use Rattle.store.specs.Store.{Entry, Slot, holds, clash}
use Rattle.store.specs.Time.{live, live_slot, dead_slot, empty_slot, lowest_slot, entry_of, slot_for, put}
use Rattle.store.specs.Valid.{Fits, FitsSlot, AllFit, Apart}
use Rattle.store.proofs.Slots.{Lowest, lowest_some, lowest_nowhere, holds_none, holds_once, clash_sym, entry_is}

-- ---- a slot set

-- what holds of every slot and of the one that is set holds of every slot after it
set_each : (P : Slot → Type 0) (ss : List Slot) (i : ℕ) (s : Slot) → P s → ((j : ℕ) → P (get_or ss j None)) → (j : ℕ) → P (get_or (set ss i s) j None)
set_each P [] i s p h j = h j
set_each P (x ∷ ss) zero s p h zero = p
set_each P (x ∷ ss) zero s p h (suc j) = h (suc j)
set_each P (x ∷ ss) (suc i) s p h zero = h zero
set_each P (x ∷ ss) (suc i) s p h (suc j) = set_each P ss i s p (λ k. h (suc k)) j

-- the slots after one is set
pub get_d_set : (ss : List Slot) (i : ℕ) (s : Slot) → i < length ss → (j : ℕ) → get_or (set ss i s) j None ≡ cond (eqb j i) s (get_or ss j None)
get_d_set ss i s l j = go (eqb j i) refl
  where
    go : (t : Bool) → eqb j i ≡ t → get_or (set ss i s) j None ≡ cond t s (get_or ss j None)
    go true q = rw (eqb-true j i q) (get_or-set_same ss i s None l)
    go false q = get_or-set_other ss i j s None (eqb-false j i q)

-- a slot that clashes with no other may be set
pub apart_set : (ss : List Slot) (i : ℕ) (s : Slot) → i < length ss → Apart ss → ((j : ℕ) → (i ≡ j → ⊥) → clash s (get_or ss j None) ≡ false) → Apart (set ss i s)
apart_set ss i s l a f x y m = rw (get_d_set ss i s l x, get_d_set ss i s l y) (go (eqb x i) refl (eqb y i) refl)
  where
    go : (t : Bool) → eqb x i ≡ t → (u : Bool) → eqb y i ≡ u → clash (cond t s (get_or ss x None)) (cond u s (get_or ss y None)) ≡ false
    go true p true q = absurd (omega (arith, eqb-true x i p, eqb-true y i q))
    go true p false q = f y (λ e. eqb-false y i q (sym e))
    go false p true q = rw (clash_sym (get_or ss x None) s) (f x (λ e. eqb-false x i p (sym e)))
    go false p false q = a x y m

-- ---- the slot that an entry is given

empty_not_live : (time : ℕ) (s : Slot) → empty_slot s ≡ true → live_slot time s ≡ false
unfolding empty_slot live_slot or_else
empty_not_live time None h = refl
empty_not_live time (Some e) h = cc

dead_not_live : (time : ℕ) (s : Slot) → dead_slot time s ≡ true → live_slot time s ≡ false
unfolding dead_slot live_slot or_else
dead_not_live time None h = refl
dead_not_live time (Some e) h = not-true (live time e) h

-- the slot of a name: a live one only if it holds the name, and no other holds the name
pub record Place (time : ℕ) (k f : List ℕ) (ss : List Slot) (i : ℕ) : Type 0 where
  pub inside : i < length ss
  pub own : live_slot time (get_or ss i None) ≡ true → holds k f (get_or ss i None) ≡ true
  pub alone : Apart ss → (j : ℕ) → (i ≡ j → ⊥) → holds k f (get_or ss j None) ≡ false

-- the slot that a name is given is such a place
pub slot_place : (time : ℕ) (k f : List ℕ) (ss : List Slot) (i : ℕ) → slot_for time k f ss ≡ Some i → Place time k f ss i
unfolding slot_for or_else
slot_place time k f ss i h = go (lowest_slot (holds k f) ss) refl (lowest_slot empty_slot ss) refl h
  where
    fresh : lowest_slot (holds k f) ss ≡ None → i < length ss → live_slot time (get_or ss i None) ≡ false → Place time k f ss i
    fresh q l n =
        record {
          inside = l;
          own = λ z. both_ways z n;
          alone = λ a j d. lowest_nowhere (holds k f) ss (holds_none k f) q j;
        }

    go : (o : Option ℕ) → lowest_slot (holds k f) ss ≡ o → (p : Option ℕ) → lowest_slot empty_slot ss ≡ p
        → or_else o (or_else p (lowest_slot (dead_slot time) ss) Some) Some ≡ Some i → Place time k f ss i
    go (Some j) q p r h =
        let l : Lowest (holds k f) ss i = lowest_some (holds k f) ss i (q ∙ h) in
        record { inside = l.inside; own = λ z. l.here; alone = λ a j d. holds_once k f ss a i j d l.here }
    go None q (Some j) r h =
        let l : Lowest empty_slot ss i = lowest_some empty_slot ss i (r ∙ h) in
        fresh q l.inside (empty_not_live time (get_or ss i None) l.here)
    go None q None r h =
        let l : Lowest (dead_slot time) ss i = lowest_some (dead_slot time) ss i h in
        fresh q l.inside (dead_not_live time (get_or ss i None) l.here)

-- ---- an entry put in its slot

module _ (time : ℕ) (e : Entry) (ss : List Slot) where
  -- what holds of the slots as they are, and of those with the entry in its place, holds of the slots after it
  put_either : (P : List Slot → Type 0) → P ss → ((i : ℕ) → Place time e.key e.field ss i → P (set ss i (Some e))) → P (put time e ss)
  unfolding put or_else
  put_either P p f = go (slot_for time e.key e.field ss) refl
    where
      go : (o : Option ℕ) → slot_for time e.key e.field ss ≡ o → P (or_else o ss (λ i. set ss i (Some e)))
      go None q = p
      go (Some i) q = f i (slot_place time e.key e.field ss i q)

  -- as many slots as before
  pub length_put : length (put time e ss) ≡ length ss
  length_put = put_either (λ t. length t ≡ length ss) refl (λ i l. length-set ss i (Some e))

  -- an entry that fits leaves slots that fit
  pub put_fits : Fits e → AllFit ss → AllFit (put time e ss)
  put_fits h a = put_either AllFit a (λ i l. set_each FitsSlot ss i (Some e) h a)

  -- an entry put leaves no two slots of one name
  pub put_apart : Apart ss → Apart (put time e ss)
  unfolding clash or_else
  put_apart a = put_either Apart a (λ i l. apart_set ss i (Some e) l.inside a (l.alone a))

  -- a live entry of another name keeps its slot
  pub put_keeps : (i : ℕ) → live_slot time (get_or ss i None) ≡ true → holds e.key e.field (get_or ss i None) ≡ false
      → get_or (put time e ss) i None ≡ get_or ss i None
  put_keeps i h n = put_either (λ t. get_or t i None ≡ get_or ss i None) refl kept
    where
      kept : (j : ℕ) → Place time e.key e.field ss j → get_or (set ss j (Some e)) i None ≡ get_or ss i None
      kept j l = get_or-set_other ss j i (Some e) None (λ q. both_ways (l.own (rw q at h)) (rw q at n))

  -- an entry of another name that stands in a slot then stood there before
  pub put_from : (i : ℕ) (x : Entry) → holds e.key e.field (Some x) ≡ false → get_or (put time e ss) i None ≡ Some x → get_or ss i None ≡ Some x
  unfolding holds or_else
  put_from i x n = put_either (λ t. get_or t i None ≡ Some x → get_or ss i None ≡ Some x) (λ h. h) from
    where
      from : (j : ℕ) → Place time e.key e.field ss j → get_or (set ss j (Some e)) i None ≡ Some x → get_or ss i None ≡ Some x
      from j l h = go (eqb i j) (rw (get_d_set ss j (Some e) l.inside i) at h)
        where
          go : (t : Bool) → cond t (Some e) (get_or ss i None) ≡ Some x → get_or ss i None ≡ Some x
          go true q =
              let m : e ≡ x = cc in
              let z : true ≡ false = rw (← m, same_refl e.key, same_refl e.field) at n in
              impossible cc
          go false q = q

  -- an entry that is given no slot changes nothing
  pub put_nowhere : slot_for time e.key e.field ss ≡ None → put time e ss ≡ ss
  unfolding put or_else
  put_nowhere h = rw h

  -- an entry that is given a slot stands in it
  pub put_here : (i : ℕ) → slot_for time e.key e.field ss ≡ Some i → get_or (put time e ss) i None ≡ Some e
  unfolding put or_else
  put_here i h = rw h (get_or-set_same ss i (Some e) None (slot_place time e.key e.field ss i h).inside)

  -- and is the entry of its name
  pub put_entry : (i : ℕ) → Apart ss → slot_for time e.key e.field ss ≡ Some i → entry_of e.key e.field (put time e ss) ≡ Some e
  put_entry i a h = entry_is (put time e ss) i e (put_apart a) (put_here i h)
