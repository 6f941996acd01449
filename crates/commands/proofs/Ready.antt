-- Slots on which fields of a key can be written one after the other.
use Rattle.std.specs.Prelude.{Option, None, Some}
use mathlib.Core.Path.{◌≡◌, refl, sym, ◌∙◌}
use mathlib.Core.Bool.{Bool, true, false, cond, and-false}
use mathlib.Core.List.{List, ◌∷◌}
use Prim.Native.Nat.{ℕ, suc, ◌≤◌}
use lib.Dec.{eqb}
use lib.ListN.{length, get_or, set, length-set}
use lib.Seq.{get_or-set_same}
use native.Mathlib.Omega.{arith}
use borrow.Author.Tests.{eqb-true, eqb-false}
use Rattle.wire.specs.Lists.{any, keep, or_else}
use Rattle.wire.specs.Bytes.{same}
use Rattle.wire.specs.Words.{Word}
use Rattle.wire.proofs.Lists.{or_late, both_ways, any_none, any_some}
use Rattle.wire.proofs.ByteLaws.{same_refl}
use Rattle.store.specs.Store.{Entry, Slot, holds, clash}
use Rattle.store.specs.Time.{live, live_slot, room_slot, slot_for, put}
use Rattle.store.specs.Valid.{Apart}
use Rattle.store.proofs.Slots.{holds_own, holds_named}
use Rattle.store.proofs.Put.{Place, slot_place, get_d_set, apart_set}
use Rattle.commands.specs.Execute.{room}
use Rattle.commands.proofs.Room.{any_set, keep_set, keep_set_less, slot_none}
use Rattle.commands.specs.Promises.{missing}
use Rattle.commands.proofs.Names.{named, held_in, missing_same, missing_less}

-- slots on which fields of a key can be written: there is room for those that are not held, and those that are held are live
pub record Ready (now : ℕ) (k : Word) (fs : List Word) (ss : List Slot) : Type 0 where
  pub apart : Apart ss
  pub enough : missing k fs ss ≤ room now ss
  pub alive : (f : Word) → named f fs ≡ true → (i : ℕ) → holds k f (get_or ss i None) ≡ true → live_slot now (get_or ss i None) ≡ true

-- slots that hold one name hold alike
holds_alike : (e : Entry) (s : Slot) (k g : Word) → holds e.key e.field s ≡ true → holds k g (Some e) ≡ holds k g s
unfolding holds or_else
holds_alike e None k g h = cc
holds_alike e (Some x) k g h = let n = holds_named e.key e.field x h in rw (n.key, n.field)

holds_other : (e : Entry) (k g : Word) → same e.field g ≡ false → holds k g (Some e) ≡ false
unfolding holds or_else
holds_other e k g h = simp (h, and-false)

-- a name is given a slot
place_found : (now : ℕ) (e : Entry) (fs : List Word) (ss : List Slot) → Ready now e.key (e.field ∷ fs) ss
    → (i : ℕ) × (slot_for now e.key e.field ss ≡ Some i)
unfolding any
place_found now e fs ss r = go (slot_for now e.key e.field ss) refl
  where
    go : (o : Option ℕ) → slot_for now e.key e.field ss ≡ o → (i : ℕ) × (slot_for now e.key e.field ss ≡ Some i)
    go (Some i) q = (i, q)
    go None q =
        let a = slot_none now e.key e.field ss q in
        let m : missing e.key (e.field ∷ fs) ss ≡ suc (missing e.key fs (Some e ∷ ss)) =
        missing_less e.key ss (Some e ∷ ss) e.field fs a.0 (rw (holds_own e)) (λ g n d. rw (holds_other e e.key g d)) in
        absurd (omega (arith, a.1, m, r.enough))

-- a live entry set in its place leaves the slots ready for the fields after it
module _ (now : ℕ) (e : Entry) (fs : List Word) (ss : List Slot) (i : ℕ) (l : live now e ≡ true) (p : Place now e.key e.field ss i)
    (r : Ready now e.key (e.field ∷ fs) ss) where
  after : List Slot
  after = set ss i (Some e)

  not_room : room_slot now (Some e) ≡ false
  unfolding room_slot live_slot or_else
  not_room = rw l

  held_after : held_in e.key e.field after ≡ true
  unfolding after
  held_after =
      any_some (holds e.key e.field) after None i (rw length-set p.inside) (rw (get_or-set_same ss i (Some e) None p.inside) (holds_own e))

  alive_after : (f : Word) → named f fs ≡ true → (j : ℕ) → holds e.key f (get_or after j None) ≡ true → live_slot now (get_or after j None) ≡ true
  unfolding after any live_slot or_else
  alive_after f n j = rw (get_d_set ss i (Some e) p.inside j) (go (eqb j i))
    where
      go : (t : Bool) → holds e.key f (cond t (Some e) (get_or ss j None)) ≡ true → live_slot now (cond t (Some e) (get_or ss j None)) ≡ true
      go true h = l
      go false h = r.alive f (or_late (same e.field f) n) j h

  -- over a live entry, which is its own
  enough_over : live_slot now (get_or ss i None) ≡ true → missing e.key fs after ≤ room now after
  unfolding after room missing room_slot
  enough_over q =
      let h : holds e.key e.field (get_or ss i None) ≡ true = p.own q in
      let m : missing e.key fs (set ss i (Some e)) ≡ missing e.key fs ss =
      missing_same e.key ss (set ss i (Some e)) fs
      (λ g n. any_set (holds e.key g) None (Some e) ss i (holds_alike e (get_or ss i None) e.key g h)) in
      let n : missing e.key (e.field ∷ fs) ss ≡ missing e.key fs ss =
      rw (any_some (holds e.key e.field) ss None i p.inside h) in
      let k : length (keep (room_slot now) (set ss i (Some e))) ≡ length (keep (room_slot now) ss) =
      keep_set (room_slot now) None (Some e) ss i (rw (not_room, q)) in
      omega (arith, m, n, k, r.enough)

  -- a slot that is not live holds none of the fields
  not_held : live_slot now (get_or ss i None) ≡ false → (g : Word) → named g (e.field ∷ fs) ≡ true → holds e.key g (get_or ss i None) ≡ false
  not_held q g n = go (holds e.key g (get_or ss i None)) refl
    where
      go : (t : Bool) → holds e.key g (get_or ss i None) ≡ t → holds e.key g (get_or ss i None) ≡ false
      go true h = both_ways (r.alive g n i h) q
      go false h = h

  -- in a slot that is empty or dead
  enough_new : live_slot now (get_or ss i None) ≡ false → missing e.key fs after ≤ room now after
  unfolding after room room_slot any
  enough_new q =
      let n : held_in e.key e.field ss ≡ false = any_none (holds e.key e.field) ss None (λ j b. nowhere j (eqb i j) refl) in
      let m : missing e.key (e.field ∷ fs) ss ≡ suc (missing e.key fs (set ss i (Some e))) =
      missing_less e.key ss (set ss i (Some e)) e.field fs n held_after
      (λ g x d.
      any_set (holds e.key g) None (Some e) ss i (holds_other e e.key g d ∙ sym (not_held q g (or_late (same e.field g) x)))) in
      let k : length (keep (room_slot now) ss) ≡ suc (length (keep (room_slot now) (set ss i (Some e)))) =
      keep_set_less (room_slot now) None (Some e) ss i p.inside (rw q) not_room in
      omega (arith, m, k, r.enough)
    where
      nowhere : (j : ℕ) (t : Bool) → eqb i j ≡ t → holds e.key e.field (get_or ss j None) ≡ false
      nowhere j true h = rw (← eqb-true i j h) (not_held q e.field (rw (same_refl e.field)))
      nowhere j false h = p.alone r.apart j (eqb-false i j h)

  enough_after : missing e.key fs after ≤ room now after
  enough_after = go (live_slot now (get_or ss i None)) refl
    where
      go : (t : Bool) → live_slot now (get_or ss i None) ≡ t → missing e.key fs after ≤ room now after
      go true q = enough_over q
      go false q = enough_new q

  ready_after : Ready now e.key fs after
  unfolding after clash or_else
  ready_after =
      record {
        apart = apart_set ss i (Some e) p.inside r.apart (p.alone r.apart);
        enough = enough_after;
        alive = alive_after;
      }

-- A live entry that is put on ready slots is given a slot, and leaves them ready for the fields after it.
pub put_ready : (now : ℕ) (e : Entry) (fs : List Word) (ss : List Slot) → live now e ≡ true → Ready now e.key (e.field ∷ fs) ss
    → (i : ℕ) × (slot_for now e.key e.field ss ≡ Some i) × Ready now e.key fs (put now e ss)
unfolding put or_else after
put_ready now e fs ss l r =
    let q = place_found now e fs ss r in
    (q.0, q.1, rw q.1 (ready_after now e fs ss q.0 l (slot_place now e.key e.field ss q.0 q.1) r))
