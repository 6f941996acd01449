-- The bytes of one slot: what is read of them is what was written.
use Rattle.std.specs.Prelude.{Option, None, Some}
use mathlib.Core.Path.{◌≡◌, refl, ap}
use mathlib.Core.Bool.{true, false, cond, ◌||◌}
use mathlib.Core.List.{List, [], ◌∷◌, map, flatten}
use Prim.Native.Nat.{ℕ, zero, suc, ◌-◌, ◌≤◌, ◌<◌}
use native.Mathlib.Omega.{arith}
use lib.Dec.{leb, eqb}
use lib.ListN.{length, get_or}
use borrow.Author.Tests.{leb-true, le-leb, lt-ltb}
use Rattle.wire.specs.Lists.{every, all}
use Rattle.wire.specs.Bytes.{Bytes, from_le, to_le, part, padded, all_zero}
use Rattle.wire.proofs.Lists.{and_both}
use Rattle.wire.proofs.ByteLaws.{bytes_flatten, bytes_padded, bytes_to_le, bytes_zeros, drop_padded, from_le_to_le, length_padded, length_to_le, take_padded, zero_replicate}
use Rattle.store.specs.Layout.{slot_size, state_at, key_length_at, field_length_at, value_length_at, empty_state, expiring_state, version_at, version_size, expiry_at, expiry_size, key_at, key_most, field_at, field_most, value_at, value_most, time_limit}
use Rattle.store.specs.Store.{Entry, Slot, decode_expiry, decode_entry, decode_slot, state_of, instant_of, encode_entry, encode_slot, zero_beyond, held_well, length_tests, expiry_tests, place_tests, slot_well}
use Rattle.store.specs.Valid.{Fits, FitsSlot}
use Rattle.store.proofs.Pieces.{total, cut, cut_flatten, length_flatten, take_part}

-- ---- the pieces of a slot

-- the lengths of a slot's pieces: state and lengths, version, expiry, key, field, value
unfoldable pub sizes : List ℕ
sizes = 4 ∷ version_size ∷ expiry_size ∷ key_most ∷ field_most ∷ value_most ∷ []

-- a slot's pieces
unfoldable pub pieces : Entry → List (List ℕ)
pieces e =
    (state_of e.expiry ∷ length e.key ∷ length e.field ∷ length e.value ∷ [])
    ∷ to_le version_size e.version
    ∷ to_le expiry_size (instant_of e.expiry)
    ∷ padded key_most e.key
    ∷ padded field_most e.field
    ∷ padded value_most e.value
    ∷ []

-- an entry's bytes are its pieces
pub encode_pieces : (e : Entry) → encode_entry e ≡ flatten (pieces e)
unfolding encode_entry pieces
encode_pieces e = refl

-- of a place that holds s and zero after it, the bytes that are used are s
used_at : (at size : ℕ) (s t : List ℕ) → length s ≤ size → part at size t ≡ padded size s → part at (length s) t ≡ s
used_at at size s t l q = rw (← take_part at (length s) size t, q) (take_padded size s)

beyond_at : (at size : ℕ) (s t : List ℕ) → part at size t ≡ padded size s → zero_beyond at size (length s) t ≡ true
unfolding zero_beyond
beyond_at at size s t q = rw (q, drop_padded size s) (zero_replicate (size - length s))

expiry_of : (x : Option ℕ) → cond (eqb (state_of x) expiring_state) (Some (instant_of x)) None ≡ x
unfolding state_of instant_of
expiry_of None = refl
expiry_of (Some t) = refl

held_state_lem : (x : Option ℕ) → eqb (state_of x) empty_state ≡ false
unfolding state_of
held_state_lem None = refl
held_state_lem (Some t) = refl

well_state : (x : Option ℕ) → leb (state_of x) expiring_state ≡ true
unfolding state_of
well_state None = refl
well_state (Some t) = refl

-- an entry with no expiry has zero for one
well_expiry : (x : Option ℕ) → (eqb (state_of x) expiring_state || all_zero (to_le expiry_size (instant_of x))) ≡ true
unfolding state_of instant_of to_le all_zero all
well_expiry None = refl
well_expiry (Some t) = refl

module _ (e : Entry) (h : Fits e) where
  sized : map length (pieces e) ≡ sizes
  unfolding pieces sizes
  sized =
      rw (
        length_to_le version_size e.version,
        length_to_le expiry_size (instant_of e.expiry),
        length_padded key_most e.key h.short.key,
        length_padded field_most e.field h.short.field,
        length_padded value_most e.value h.short.value,
      )

  -- an entry's bytes are as many as a slot has
  pub length_encode_entry : length (encode_entry e) ≡ slot_size
  unfolding sizes total
  length_encode_entry = rw (encode_pieces, length_flatten, sized)

  cut_entry : cut 0 sizes (encode_entry e) ≡ pieces e
  cut_entry = rw (encode_pieces, ← sized) (cut_flatten (pieces e) [])

  -- ---- each place of the slot that holds the entry

  piece : (i : ℕ) → get_or (cut 0 sizes (encode_entry e)) i [] ≡ get_or (pieces e) i []
  piece i = rw cut_entry

  -- the state, and the three lengths, one byte each
  pub state_at_lem : get_or (encode_entry e) state_at 0 ≡ state_of e.expiry
  unfolding encode_entry flatten
  state_at_lem = refl

  pub key_length_at_lem : get_or (encode_entry e) key_length_at 0 ≡ length e.key
  unfolding encode_entry flatten
  key_length_at_lem = refl

  pub field_length_at_lem : get_or (encode_entry e) field_length_at 0 ≡ length e.field
  unfolding encode_entry flatten
  field_length_at_lem = refl

  pub value_length_at_lem : get_or (encode_entry e) value_length_at 0 ≡ length e.value
  unfolding encode_entry flatten
  value_length_at_lem = refl

  -- the bytes of each place after these
  pub version_bytes : part version_at version_size (encode_entry e) ≡ to_le version_size e.version
  unfolding cut sizes pieces
  version_bytes = piece 1

  pub expiry_bytes : part expiry_at expiry_size (encode_entry e) ≡ to_le expiry_size (instant_of e.expiry)
  unfolding cut sizes pieces
  expiry_bytes = piece 2

  pub key_bytes : part key_at key_most (encode_entry e) ≡ padded key_most e.key
  unfolding cut sizes pieces
  key_bytes = piece 3

  pub field_bytes : part field_at field_most (encode_entry e) ≡ padded field_most e.field
  unfolding cut sizes pieces
  field_bytes = piece 4

  pub value_bytes : part value_at value_most (encode_entry e) ≡ padded value_most e.value
  unfolding cut sizes pieces
  value_bytes = piece 5

  -- what the bytes of each place say
  pub version_at_lem : from_le (part version_at version_size (encode_entry e)) ≡ e.version
  version_at_lem = rw version_bytes (from_le_to_le version_size e.version (omega (arith, h.version)))

  pub expiry_at_lem : from_le (part expiry_at expiry_size (encode_entry e)) ≡ instant_of e.expiry
  expiry_at_lem = rw expiry_bytes (from_le_to_le expiry_size (instant_of e.expiry) (omega (arith, h.expiry)))

  pub key_at_lem : part key_at (length e.key) (encode_entry e) ≡ e.key
  key_at_lem = used_at key_at key_most e.key (encode_entry e) h.short.key key_bytes

  pub field_at_lem : part field_at (length e.field) (encode_entry e) ≡ e.field
  field_at_lem = used_at field_at field_most e.field (encode_entry e) h.short.field field_bytes

  pub value_at_lem : part value_at (length e.value) (encode_entry e) ≡ e.value
  value_at_lem = used_at value_at value_most e.value (encode_entry e) h.short.value value_bytes

  -- ---- what is read of it

  -- the expiry is read back
  pub expiry_read : decode_expiry (encode_entry e) ≡ e.expiry
  unfolding decode_expiry
  expiry_read = rw (state_at_lem, expiry_at_lem) (expiry_of e.expiry)

  -- the entry is read back
  pub decode_encode_entry : decode_entry (encode_entry e) ≡ e
  unfolding decode_entry encode_entry flatten
  decode_encode_entry = λ i. record { key = key_at_lem i; field = field_at_lem i; value = value_at_lem i; version = version_at_lem i; expiry = expiry_read i }

  -- an entry's bytes pass the tests of a held slot
  pub well_encode_entry : held_well (encode_entry e) ≡ true
  unfolding held_well length_tests expiry_tests place_tests every
  well_encode_entry =
      rw (state_at_lem, key_length_at_lem, field_length_at_lem, value_length_at_lem, expiry_at_lem, expiry_bytes)
      (and_both
      (and_both (well_state e.expiry)
      (and_both (le-leb (length e.key) key_most h.short.key)
      (and_both (le-leb (length e.field) field_most h.short.field)
      (and_both (le-leb (length e.value) value_most h.short.value) refl))))
      (and_both
      (and_both (well_expiry e.expiry) (and_both (le-leb (instant_of e.expiry) time_limit h.expiry) refl))
      (and_both
      (and_both (beyond_at key_at key_most e.key (encode_entry e) key_bytes)
      (and_both (beyond_at field_at field_most e.field (encode_entry e) field_bytes)
      (and_both (beyond_at value_at value_most e.value (encode_entry e) value_bytes) refl)))
      refl)))

  -- an entry's bytes are bytes
  pub bytes_encode_entry : Bytes (encode_entry e)
  unfolding pieces
  bytes_encode_entry = rw encode_pieces (bytes_flatten (pieces e) each)
    where
      state : (x : Option ℕ) → state_of x < 256
      state x = omega (arith, leb-true (state_of x) expiring_state (well_state x))

      each : (i : ℕ) → Bytes (get_or (pieces e) i [])
      each zero =
          and_both (lt-ltb (state_of e.expiry) 256 (state e.expiry))
          (and_both (lt-ltb (length e.key) 256 (omega (arith, h.short.key)))
          (and_both (lt-ltb (length e.field) 256 (omega (arith, h.short.field)))
          (and_both (lt-ltb (length e.value) 256 (omega (arith, h.short.value))) refl)))
      each (suc zero) = bytes_to_le version_size e.version
      each (suc (suc zero)) = bytes_to_le expiry_size (instant_of e.expiry)
      each (suc (suc (suc zero))) = bytes_padded key_most e.key h.key_bytes
      each (suc (suc (suc (suc zero)))) = bytes_padded field_most e.field h.field_bytes
      each (suc (suc (suc (suc (suc zero))))) = bytes_padded value_most e.value h.value_bytes
      each (suc (suc (suc (suc (suc (suc i)))))) = refl

-- ---- any slot

-- a slot's bytes are as many as a slot has
pub length_encode_slot : (s : Slot) → FitsSlot s → length (encode_slot s) ≡ slot_size
unfolding encode_slot
length_encode_slot None h = refl
length_encode_slot (Some e) h = length_encode_entry e h

-- a slot is read back
pub decode_encode_slot : (s : Slot) → FitsSlot s → decode_slot (encode_slot s) ≡ s
unfolding encode_slot decode_slot
decode_encode_slot None h = refl
decode_encode_slot (Some e) h = rw (state_at_lem e h, held_state_lem e.expiry) (ap Some (decode_encode_entry e h))

-- a slot's bytes pass its test
pub well_encode_slot : (s : Slot) → FitsSlot s → slot_well (encode_slot s) ≡ true
unfolding encode_slot slot_well
well_encode_slot None h = zero_replicate slot_size
well_encode_slot (Some e) h = rw (state_at_lem e h, held_state_lem e.expiry) (well_encode_entry e h)

-- a slot's bytes are bytes
pub bytes_encode_slot : (s : Slot) → FitsSlot s → Bytes (encode_slot s)
unfolding encode_slot
bytes_encode_slot None h = bytes_zeros slot_size
bytes_encode_slot (Some e) h = bytes_encode_entry e h
