-- The slot in which a key and a field are live: what a search says of it.
use Rattle.std.specs.Prelude.{Option, None, Some}
use Rattle.std.specs.Bool.{then_some}
use mathlib.Core.Path.{◌≡◌, refl, sym, ap}
use mathlib.Core.Bool.{Bool, true, false, ◌&&◌}
use mathlib.Core.List.{List}
use Prim.Native.Nat.{ℕ, ◌<◌}
use lib.ListN.{get_or}
use Rattle.wire.specs.Lists.{or_else}
use Rattle.wire.proofs.Lists.{and_left, and_right, both_ways}
use Rattle.store.specs.Store.{Slot, decode, slot_count, well_formed, holds}
use Rattle.store.specs.Time.{live_slot, lowest_slot}
use Rattle.store.specs.Valid.{Apart}
use Rattle.store.proofs.Slots.{lowest_some, lowest_nowhere, holds_none, holds_only}
use Rattle.store.proofs.Encode.{length_decode, decode_valid}
use Rattle.store.proofs.Finding.{found_at, found_nothing}
use Rattle.compare.specs.Listing.{live_of, live_slot_of}

module _ (instant : ℕ) (k f : List ℕ) where
  -- an empty slot has no live entry
  pub live_empty : live_of instant k f None ≡ false
  unfolding live_of live_slot or_else
  live_empty = rw (holds_none k f)

  pub live_holds : (s : Slot) → live_of instant k f s ≡ true → holds k f s ≡ true
  unfolding live_of
  live_holds s h = and_left (holds k f s) (live_slot instant s) h

  pub live_lives : (s : Slot) → live_of instant k f s ≡ true → live_slot instant s ≡ true
  unfolding live_of
  live_lives s h = and_right (holds k f s) (live_slot instant s) h

  pub live_both : (s : Slot) → holds k f s ≡ true → live_slot instant s ≡ true → live_of instant k f s ≡ true
  unfolding live_of
  live_both s h l = rw (h, l)

  module _ (ss : List Slot) where
    -- the slot that the search gives has a live entry of the name
    pub live_here : (i : ℕ) → live_slot_of instant k f ss ≡ Some i → live_of instant k f (get_or ss i None) ≡ true
    unfolding live_slot_of
    live_here i h = (lowest_some (live_of instant k f) ss i h).here

    -- where it gives none, no slot has
    pub live_nowhere : live_slot_of instant k f ss ≡ None → (i : ℕ) → live_of instant k f (get_or ss i None) ≡ false
    unfolding live_slot_of
    live_nowhere h = lowest_nowhere (live_of instant k f) ss live_empty h

    -- where no slot has, it gives none
    pub live_none : ((i : ℕ) → live_of instant k f (get_or ss i None) ≡ false) → live_slot_of instant k f ss ≡ None
    live_none h = go (live_slot_of instant k f ss) refl
      where
        go : (o : Option ℕ) → live_slot_of instant k f ss ≡ o → o ≡ None
        go None q = refl
        go (Some i) q = both_ways (live_here i q) (h i)

    -- where no two slots have one name, a slot that has is the one
    pub live_only : (i : ℕ) → Apart ss → live_of instant k f (get_or ss i None) ≡ true → live_slot_of instant k f ss ≡ Some i
    live_only i a h = go (live_slot_of instant k f ss) refl
      where
        go : (o : Option ℕ) → live_slot_of instant k f ss ≡ o → o ≡ Some i
        go None q = both_ways h (live_nowhere q i)
        go (Some j) q =
            ap Some (holds_only k f ss a j i (live_holds (get_or ss j None) (live_here j q)) (live_holds (get_or ss i None) h))

-- ---- the search of the code: the slot of a name, then whether it is live

module _ (b k f : List ℕ) (instant : ℕ) (w : well_formed b ≡ true) where
  apart : Apart (decode b).slots
  apart = (decode_valid b w).apart

  pub named_nowhere : None ≡ lowest_slot (holds k f) (decode b).slots → None ≡ live_slot_of instant k f (decode b).slots
  unfolding live_of
  named_nowhere h = rw (live_none instant k f (decode b).slots dead)
    where
      missing : (i : ℕ) → holds k f (get_or (decode b).slots i None) ≡ false
      missing = lowest_nowhere (holds k f) (decode b).slots (holds_none k f) (found_nothing (lowest_slot (holds k f) (decode b).slots) h)

      dead : (i : ℕ) → live_of instant k f (get_or (decode b).slots i None) ≡ false
      dead i = rw (missing i)

  module _ (i : ℕ) (h : Some i ≡ lowest_slot (holds k f) (decode b).slots) where
    here : holds k f (get_or (decode b).slots i None) ≡ true
    here = (lowest_some (holds k f) (decode b).slots i (found_at (lowest_slot (holds k f) (decode b).slots) i h)).here

    pub found_inside : (well_formed b ≡ true) × (i < slot_count b)
    found_inside =
        (w, rw (← length_decode b) (lowest_some (holds k f) (decode b).slots i (found_at (lowest_slot (holds k f) (decode b).slots) i h)).inside)

    live : live_slot instant (get_or (decode b).slots i None) ≡ true → Some i ≡ live_slot_of instant k f (decode b).slots
    live l = rw (live_only instant k f (decode b).slots i apart (live_both instant k f (get_or (decode b).slots i None) here l))

    dead : live_slot instant (get_or (decode b).slots i None) ≡ false → None ≡ live_slot_of instant k f (decode b).slots
    unfolding live_of
    dead l = rw (live_none instant k f (decode b).slots nowhere)
      where
        nowhere : (j : ℕ) → live_of instant k f (get_or (decode b).slots j None) ≡ false
        nowhere j = go (holds k f (get_or (decode b).slots j None)) refl
          where
            go : (t : Bool) → holds k f (get_or (decode b).slots j None) ≡ t → (t && live_slot instant (get_or (decode b).slots j None)) ≡ false
            go true q = rw (holds_only k f (decode b).slots apart j i q here) l
            go false q = refl

    -- it is the answer exactly if it is live
    pub named_live : {t : Bool} → t ≡ live_slot instant (get_or (decode b).slots i None) → then_some t i ≡ live_slot_of instant k f (decode b).slots
    named_live {t = true} h = live (sym h)
    named_live {t = false} h = dead (sym h)
