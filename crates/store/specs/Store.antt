-- What a store holds, the bytes of it, and which bytes are a store (01, "The store's bytes").
use Rattle.std.specs.Prelude.{Option, None, Some}
use Rattle.std.specs.Prelude.{Bool, true, false, cond, not, ◌&&◌, ◌||◌, ℕ, zero, suc, ◌+◌, ◌-◌, ◌*◌, ◌/◌, leb, ltb, eqb, length, take, drop, get_or, replicate}
use mathlib.Core.List.{List, [], ◌∷◌, ◌++◌, map, flatten}
use Rattle.std.proofs.Math.Pow.{are_bytes}
use Rattle.wire.specs.Lists.{every, all, any, or_else}
use Rattle.wire.specs.Bytes.{from_le, to_le, part, padded, all_zero, same}
use Rattle.store.specs.Layout.{header_size, slot_size, slots_most, clock_size, reserved_size, state_at, key_length_at, field_length_at, value_length_at, version_at, version_size, expiry_at, expiry_size, key_at, key_most, field_at, field_most, value_at, value_most, empty_state, held_state, expiring_state, time_limit}

-- ---- what a store holds

pub record Entry : Type 0 where
  pub key : List ℕ
  pub field : List ℕ
  pub value : List ℕ
  pub version : ℕ
  pub expiry : Option ℕ

-- Entries are built and changed by these alone.
abbrev pub entry : List ℕ → List ℕ → List ℕ → ℕ → Option ℕ → Entry
entry k f v n x = record { key = k; field = f; value = v; version = n; expiry = x }

abbrev pub blank : Entry
blank = entry [] [] [] 0 None

-- an entry with another version
abbrev pub with_version : ℕ → Entry → Entry
with_version n e = entry e.key e.field e.value n e.expiry

-- an entry with another expiry
abbrev pub with_expiry : Option ℕ → Entry → Entry
with_expiry x e = entry e.key e.field e.value e.version x

-- a slot holds an entry, or is empty
abbrev pub Slot : Type 0
Slot = Option Entry

-- the entry of slot i; an empty one where there is none
unfoldable pub entry_at : List Slot → ℕ → Entry
entry_at ss i = or_else (get_or ss i None) blank (λ e. e)

pub record Store : Type 0 where
  pub clock : ℕ
  pub slots : List Slot

abbrev pub with_clock : ℕ → Store → Store
with_clock t s = record { clock = t; slots = s.slots }

abbrev pub with_slots : List Slot → Store → Store
with_slots ss s = record { clock = s.clock; slots = ss }

-- ---- from bytes

unfoldable pub decode_expiry : List ℕ → Option ℕ
decode_expiry t = cond (eqb (get_or t state_at 0) expiring_state) (Some (from_le (part expiry_at expiry_size t))) None

unfoldable pub decode_entry : List ℕ → Entry
decode_entry t =
    entry
    (part key_at (get_or t key_length_at 0) t)
    (part field_at (get_or t field_length_at 0) t)
    (part value_at (get_or t value_length_at 0) t)
    (from_le (part version_at version_size t))
    (decode_expiry t)

unfoldable pub decode_slot : List ℕ → Slot
decode_slot t = cond (eqb (get_or t state_at 0) empty_state) None (Some (decode_entry t))

-- the bytes of the first n slots
unfoldable pub slots_in : ℕ → List ℕ → List (List ℕ)
slots_in zero s = []
slots_in (suc n) s = take slot_size s ∷ slots_in n (drop slot_size s)

-- how many slots bytes of a size have
abbrev pub slots_within : ℕ → ℕ
slots_within size = (size - header_size) / slot_size

unfoldable pub slot_count : List ℕ → ℕ
slot_count b = slots_within (length b)

unfoldable pub slot_bytes : List ℕ → List (List ℕ)
slot_bytes b = slots_in (slot_count b) (drop header_size b)

unfoldable pub clock_of : List ℕ → ℕ
clock_of b = from_le (take clock_size b)

unfoldable pub decode : List ℕ → Store
decode b = record { clock = clock_of b; slots = map decode_slot (slot_bytes b) }

-- ---- to bytes

unfoldable pub state_of : Option ℕ → ℕ
state_of None = held_state
state_of (Some t) = expiring_state

unfoldable pub instant_of : Option ℕ → ℕ
instant_of None = 0
instant_of (Some t) = t

unfoldable pub encode_entry : Entry → List ℕ
encode_entry e =
    flatten
    ((state_of e.expiry ∷ length e.key ∷ length e.field ∷ length e.value ∷ [])
    ∷ to_le version_size e.version
    ∷ to_le expiry_size (instant_of e.expiry)
    ∷ padded key_most e.key
    ∷ padded field_most e.field
    ∷ padded value_most e.value
    ∷ []
    )

unfoldable pub encode_slot : Slot → List ℕ
encode_slot None = replicate slot_size 0
encode_slot (Some e) = encode_entry e

unfoldable pub encode : Store → List ℕ
encode s = to_le clock_size s.clock ++ replicate reserved_size 0 ++ flatten (map encode_slot s.slots)

-- ---- which bytes are a store

-- of a place of `size` bytes, those beyond the bytes used are zero
unfoldable pub zero_beyond : ℕ → ℕ → ℕ → List ℕ → Bool
zero_beyond at size used t = all_zero (drop used (part at size t))

-- "state (.. 1 held, 2 held with expiry), key length (at most 16), field length (at most 32), value length (at most 64)"
unfoldable pub length_tests : List ℕ → List Bool
length_tests t =
    leb (get_or t state_at 0) expiring_state
    ∷ leb (get_or t key_length_at 0) key_most
    ∷ leb (get_or t field_length_at 0) field_most
    ∷ leb (get_or t value_length_at 0) value_most
    ∷ []

-- "expiry in ms (8 bytes, zero unless state 2, at most 4,102,444,800,000)"
unfoldable pub expiry_tests : List ℕ → List Bool
expiry_tests t =
    (eqb (get_or t state_at 0) expiring_state || all_zero (part expiry_at expiry_size t))
    ∷ leb (from_le (part expiry_at expiry_size t)) time_limit
    ∷ []

-- "Places beyond a length are zero"
unfoldable pub place_tests : List ℕ → List Bool
place_tests t =
    zero_beyond key_at key_most (get_or t key_length_at 0) t
    ∷ zero_beyond field_at field_most (get_or t field_length_at 0) t
    ∷ zero_beyond value_at value_most (get_or t value_length_at 0) t
    ∷ []

unfoldable pub held_well : List ℕ → Bool
held_well t = every (every (length_tests t) ∷ every (expiry_tests t) ∷ every (place_tests t) ∷ [])

-- "an empty slot is all zero"
unfoldable pub slot_well : List ℕ → Bool
slot_well t = cond (eqb (get_or t state_at 0) empty_state) (all_zero t) (held_well t)

-- a slot that holds an entry of a key and a field
unfoldable pub holds : List ℕ → List ℕ → Slot → Bool
holds k f s = or_else s false (λ e. same e.key k && same e.field f)

unfoldable pub clash : Slot → Slot → Bool
clash s other = or_else s false (λ e. holds e.key e.field other)

-- "No two held slots have the same key and field."
unfoldable pub distinct : List Slot → Bool
distinct [] = true
distinct (s ∷ ss) = not (any (clash s) ss) && distinct ss

-- "A store is 16+128·n bytes, n from 1 to 500."
unfoldable pub size_tests : ℕ → List Bool
size_tests size =
    let count : ℕ = slots_within size in
    eqb size (header_size + slot_size * count) ∷ leb 1 count ∷ leb count slots_most ∷ []

-- "First 8: the latest clock, low first; next 8: zero." "The latest clock is below 4,102,444,800,000."
unfoldable pub header_tests : List ℕ → List Bool
header_tests b = ltb (clock_of b) time_limit ∷ all_zero (part clock_size reserved_size b) ∷ []

-- "Anything else is not well formed."
unfoldable pub well_formed : List ℕ → Bool
well_formed b =
    every
    (are_bytes b
    ∷ every (size_tests (length b))
    ∷ every (header_tests b)
    ∷ all slot_well (slot_bytes b)
    ∷ distinct (decode b).slots
    ∷ []
    )
