-- What the acts on a store leave in it: the sweep of one name, the slot for an entry, the entry put there.
use Rattle.std.specs.Prelude.{MatchOption, Option, None, Some}
use mathlib.Core.Path.{◌≡◌, refl, sym, ap, ◌∙◌}
use mathlib.Core.Bool.{Bool, true, false, cond, and-false, or-false}
use mathlib.Core.List.{List, [], ◌∷◌}
use Prim.Native.Nat.{ℕ, ◌<◌}
use lib.Dec.{eqb}
use borrow.Author.Tests.{eqb-true, eqb-false}
use lib.ListN.{get_or, set, length-set}
use lib.Seq.{set-get_or, ext_get_or}
use Rattle.wire.specs.Lists.{any, or_else}
use Rattle.wire.proofs.Lists.{both_ways}
use Rattle.store.specs.Store.{Entry, Slot, slot_count, decode, well_formed, holds}
use Rattle.store.specs.Time.{live_slot, dead_slot, empty_slot, lowest_slot, slot_for, put, without}
use Rattle.store.specs.Promises.{Holds, Placeable, with_slot}
use Rattle.store.specs.Valid.{Fits, Apart}
use Rattle.store.proofs.Slots.{Lowest, lowest_some, lowest_nowhere, holds_none, holds_once}
use Rattle.store.proofs.Put.{Place, slot_place, get_d_set, put_nowhere}
use Rattle.store.proofs.Without.{emptied, length_without, get_d_without}
use Rattle.store.proofs.Encode.{length_decode, decode_valid}
use Rattle.store.proofs.Finding.{found_at, found_nothing}
use Rattle.commands.specs.Execute.{named_dead, sweep, swept}
use Rattle.commands.specs.Promises.{Looked, look_for, slot_after, with_put}

-- ---- the slots without the dead entry of a name

abbrev dead_of : ℕ → List ℕ → List ℕ → Entry → Bool
dead_of time k f = named_dead time k (f ∷ [])

module _ (time : ℕ) (k f : List ℕ) where
  abbrev swept_slot : Slot → Slot
  swept_slot = emptied (dead_of time k f)

  abbrev swept_slots : List Slot → List Slot
  swept_slots = without (dead_of time k f)

  -- a slot of another name stays
  other_stays : (s : Slot) → holds k f s ≡ false → swept_slot s ≡ s
  unfolding emptied named_dead any holds or_else
  other_stays None h = refl
  other_stays (Some e) h = simp (or-false, h)

  -- a live one stays
  live_stays : (s : Slot) → live_slot time s ≡ true → swept_slot s ≡ s
  unfolding emptied named_dead any live_slot or_else
  live_stays None h = refl
  live_stays (Some e) h = simp (h, and-false)

  -- a dead one of that name is emptied
  dead_goes : (s : Slot) → holds k f s ≡ true → live_slot time s ≡ false → swept_slot s ≡ None
  unfolding emptied named_dead any holds live_slot or_else
  dead_goes None h d = refl
  dead_goes (Some e) h d = simp (or-false, h, d)

  module _ (ss : List Slot) where
    -- no slot holds the name
    swept_nowhere : lowest_slot (holds k f) ss ≡ None → swept_slots ss ≡ ss
    swept_nowhere h =
        ext_get_or None (swept_slots ss) ss (length_without (dead_of time k f) ss) λ j l.
        get_d_without (dead_of time k f) ss j ∙ other_stays (get_or ss j None) (lowest_nowhere (holds k f) ss (holds_none k f) h j)

    module _ (a : Apart ss) (i : ℕ) (h : lowest_slot (holds k f) ss ≡ Some i) where
      lowest : Lowest (holds k f) ss i
      lowest = lowest_some (holds k f) ss i h

      -- one slot holds it, and only that may change
      swept_one : swept_slots ss ≡ set ss i (swept_slot (get_or ss i None))
      swept_one =
          ext_get_or None (swept_slots ss) (set ss i new) (length_without (dead_of time k f) ss ∙ sym (length-set ss i new)) λ j l.
          get_d_without (dead_of time k f) ss j ∙ go j (eqb j i) refl ∙ sym (get_d_set ss i new lowest.inside j)
        where
          new : Slot
          new = swept_slot (get_or ss i None)

          go : (j : ℕ) (t : Bool) → eqb j i ≡ t → swept_slot (get_or ss j None) ≡ cond t new (get_or ss j None)
          go j true q = rw (eqb-true j i q)
          go j false q = other_stays (get_or ss j None) (holds_once k f ss a i j (λ e. eqb-false j i q (sym e)) lowest.here)

      -- it is live
      swept_live : live_slot time (get_or ss i None) ≡ true → swept_slots ss ≡ ss
      swept_live l = swept_one ∙ ap (set ss i) (live_stays (get_or ss i None) l) ∙ set-get_or ss i None

      -- it is dead
      swept_dead : live_slot time (get_or ss i None) ≡ false → swept_slots ss ≡ set ss i None
      swept_dead d = swept_one ∙ ap (set ss i) (dead_goes (get_or ss i None) lowest.here d)

-- a name whose one slot is emptied has none
gone_lowest : (k f : List ℕ) (ss : List Slot) → Apart ss → (i : ℕ) → lowest_slot (holds k f) ss ≡ Some i → lowest_slot (holds k f) (set ss i None) ≡ None
gone_lowest k f ss a i h = go (lowest_slot (holds k f) (set ss i None)) refl
  where
    l : Lowest (holds k f) ss i
    l = lowest_some (holds k f) ss i h

    each : (j : ℕ) (t : Bool) → eqb j i ≡ t → holds k f (cond t None (get_or ss j None)) ≡ false
    each j true q = holds_none k f
    each j false q = holds_once k f ss a i j (λ e. eqb-false j i q (sym e)) l.here

    go : (o : Option ℕ) → lowest_slot (holds k f) (set ss i None) ≡ o → lowest_slot (holds k f) (set ss i None) ≡ None
    go None q = q
    go (Some j) q =
        both_ways (lowest_some (holds k f) (set ss i None) j q).here (rw (get_d_set ss i None l.inside j) (each j (eqb j i) refl))

-- ---- a store's bytes

-- bytes that hold slots hold equal ones
pub holds_slots : {d : List ℕ} {n : ℕ} {ss ts : List Slot} → ts ≡ ss → Holds d (record { clock = n; slots = ss }) → Holds d (record { clock = n; slots = ts })
holds_slots e h = rw e h

-- well-formed bytes hold what they mean
pub holds_self : {b : List ℕ} → well_formed b ≡ true → Holds b (decode b)
holds_self w = record { means = refl; well = w }

module _ (b : List ℕ) (w : well_formed b ≡ true) (k f : List ℕ) where
  -- no entry of a name was found: the sweep changes nothing
  pub sweeps_nothing : (time : ℕ) → None ≡ lowest_slot (holds k f) (decode b).slots → Holds b (swept time k (f ∷ []) (decode b))
  unfolding sweep
  sweeps_nothing time h =
      holds_slots (swept_nowhere time k f (decode b).slots (found_nothing (lowest_slot (holds k f) (decode b).slots) h)) (holds_self w)

  module _ (i : ℕ) (h : Some i ≡ lowest_slot (holds k f) (decode b).slots) where
    named : lowest_slot (holds k f) (decode b).slots ≡ Some i
    named = found_at (lowest_slot (holds k f) (decode b).slots) i h

    -- the slot that was found is a store's
    pub found_slot : (well_formed b ≡ true) × (i < slot_count b)
    found_slot = (w, rw (← length_decode b) (lowest_some (holds k f) (decode b).slots i named).inside)

    -- its entry is live: the sweep changes nothing
    pub sweeps_live : (time : ℕ) → live_slot time (get_or (decode b).slots i None) ≡ true → Holds b (swept time k (f ∷ []) (decode b))
    unfolding sweep
    sweeps_live time l = holds_slots (swept_live time k f (decode b).slots (decode_valid b w).apart i named l) (holds_self w)

    -- its entry is dead: the sweep empties the slot
    pub sweeps_dead : (time : ℕ) → live_slot time (get_or (decode b).slots i None) ≡ false → {d : List ℕ} → Holds d (with_slot i None (decode b))
        → Holds d (swept time k (f ∷ []) (decode b))
    unfolding sweep
    sweeps_dead time n x = holds_slots (swept_dead time k f (decode b).slots (decode_valid b w).apart i named n) x

    -- and after that there is none.
    pub looked_gone : {d : List ℕ} → Holds d (with_slot i None (decode b)) → Looked d k f None
    looked_gone x = rw x.means (sym ((gone_lowest k f (decode b).slots (decode_valid b w).apart i named)))

-- ---- the slot for an entry

-- its own, else an empty one, else a dead one, or none
pub slot_chosen : (time : ℕ) (ss : List Slot) (own first : Option ℕ) {r : Option ℕ}
    → MatchOption own (first ≡ lowest_slot empty_slot ss) (λ i. first ≡ Some i)
    → MatchOption first (r ≡ lowest_slot (dead_slot time) ss) (λ i. r ≡ Some i) → r ≡ slot_after time own ss
unfolding slot_after or_else
slot_chosen time ss (Some i) first h d = rw h at d
slot_chosen time ss None (Some j) h d = rw (← h) d
slot_chosen time ss None None h d = rw (← h) d

-- After a look for a key and a field it is the slot for their entry.
pub after_look : (time : ℕ) (b k f : List ℕ) {own r : Option ℕ} → Looked b k f own → r ≡ slot_after time own (decode b).slots
    → r ≡ look_for time k f (decode b).slots
unfolding look_for slot_for slot_after or_else
after_look time b k f {own} {r} h e = go (lowest_slot (holds k f) (decode b).slots) h
  where
    free : Option ℕ
    free = or_else (lowest_slot empty_slot (decode b).slots) (lowest_slot (dead_slot time) (decode b).slots) Some

    go : (o : Option ℕ) → own ≡ o → r ≡ (or_else o free Some)
    go None q = e ∙ ap (λ x. slot_after time x (decode b).slots) q
    go (Some i) q = e ∙ ap (λ x. slot_after time x (decode b).slots) q

-- ---- an entry in its place

module _ (b : List ℕ) (time : ℕ) (e : Entry) (w : well_formed b ≡ true) where
  -- there is no place: nothing changes
  pub places_nothing : None ≡ look_for time e.key e.field (decode b).slots → Holds b (with_put time e (decode b))
  unfolding with_put look_for
  places_nothing h =
      holds_slots (put_nowhere time e (decode b).slots (found_nothing (slot_for time e.key e.field (decode b).slots) h)) (holds_self w)

  module _ (i : ℕ) (h : Some i ≡ look_for time e.key e.field (decode b).slots) where
    given : slot_for time e.key e.field (decode b).slots ≡ Some i
    unfolding look_for
    given = found_at (slot_for time e.key e.field (decode b).slots) i h

    -- the entry may be put there
    pub may_place : Fits e → Placeable b i e
    may_place x =
        let p : Place time e.key e.field (decode b).slots i = slot_place time e.key e.field (decode b).slots i given in
        record {
          well = w;
          inside = rw (← length_decode b) p.inside;
          fits = x;
          alone = p.alone (decode_valid b w).apart;
        }

    -- it is put there
    pub places : {d : List ℕ} → Holds d (with_slot i (Some e) (decode b)) → Holds d (with_put time e (decode b))
    unfolding with_put put or_else
    places h = rw given h
