-- Time, and the slot of an entry (01, "Time").
use Rattle.std.specs.Prelude.{Option, None, Some, option_map}
use Rattle.std.specs.Prelude.{Bool, true, false, cond, not, ◌&&◌, List, [], ◌∷◌, map, ℕ, suc, max, ltb, set}
use Rattle.wire.specs.Lists.{any, or_else}
use Rattle.wire.specs.Bytes.{same}
use Rattle.store.specs.Store.{Entry, Slot, Store, holds}

-- "Now is the larger of the store's clock and the record's."
unfoldable pub now_at : ℕ → Store → ℕ
now_at clock s = max s.clock clock

-- "An entry is live if it has no expiry or now is less than its expiry, otherwise dead."
unfoldable pub before : ℕ → Option ℕ → Bool
before now None = true
before now (Some t) = ltb now t

unfoldable pub live : ℕ → Entry → Bool
live now e = before now e.expiry

unfoldable pub live_slot : ℕ → Slot → Bool
live_slot now s = or_else s false (live now)

unfoldable pub dead_slot : ℕ → Slot → Bool
dead_slot now s = or_else s false (λ e. not (live now e))

unfoldable pub empty_slot : Slot → Bool
empty_slot s = or_else s true (λ e. false)

-- empty or dead: room for a new entry
unfoldable pub room_slot : ℕ → Slot → Bool
room_slot now s = not (live_slot now s)

-- a slot that holds an entry of a key, and one whose entry is live
unfoldable pub of_key : List ℕ → Slot → Bool
of_key k s = or_else s false (λ e. same e.key k)

unfoldable pub live_of_key : ℕ → List ℕ → Slot → Bool
live_of_key now k s = or_else s false (λ e. same e.key k && live now e)

-- "A key exists if it has a live entry."
unfoldable pub key_exists : ℕ → List ℕ → List Slot → Bool
key_exists now k ss = any (live_of_key now k) ss

-- the lowest slot of which p holds
unfoldable pub lowest_slot : (Slot → Bool) → List Slot → Option ℕ
lowest_slot p [] = None
lowest_slot p (s ∷ ss) =
    let later : Option ℕ = option_map suc (lowest_slot p ss) in
    cond (p s) (Some 0) later

-- the entry of a key and a field, dead or live
unfoldable pub entry_of : List ℕ → List ℕ → List Slot → Option Entry
entry_of k f [] = None
entry_of k f (s ∷ ss) =
    let later : Option Entry = entry_of k f ss in
    cond (holds k f s) s later

-- "An overwritten entry keeps its slot." "A new entry goes in the lowest empty slot, else over the lowest dead one."
unfoldable pub slot_for : ℕ → List ℕ → List ℕ → List Slot → Option ℕ
slot_for now k f ss =
    let free : Option ℕ = or_else (lowest_slot empty_slot ss) (lowest_slot (dead_slot now) ss) Some in
    or_else (lowest_slot (holds k f) ss) free Some

-- the slots with an entry put in its place; with no place for it they stay as they are
unfoldable pub put : ℕ → Entry → List Slot → List Slot
put now e ss = or_else (slot_for now e.key e.field ss) ss (λ i. set ss i (Some e))

-- the slots without those entries of which p holds
unfoldable pub without : (Entry → Bool) → List Slot → List Slot
without p ss = map (λ s. or_else s None (λ e. cond (p e) None (Some e))) ss
