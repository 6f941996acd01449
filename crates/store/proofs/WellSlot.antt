-- The bytes of a slot that pass its test: they are the bytes of what they mean, and that fits.
use Rattle.std.specs.Prelude.{None, Some}
use mathlib.Core.Path.{◌≡◌, refl, sym}
use mathlib.Core.Bool.{Bool, true, false, cond, ◌||◌}
use mathlib.Core.List.{List, [], ◌∷◌}
use mathlib.Core.Logic.{◌≢◌}
use Prim.Native.Nat.{ℕ, ◌+◌, ◌≤◌}
use native.Mathlib.Omega.{arith}
use lib.Dec.{eqb}
use lib.ListN.{length, get_or}
use borrow.Author.Tests.{leb-true, eqb-true, eqb-false}
use Rattle.wire.specs.Lists.{every}
use Rattle.wire.specs.Bytes.{Bytes, from_le, to_le, part, padded, all_zero}
use Rattle.wire.proofs.Lists.{every_at}
use Rattle.wire.proofs.ByteLaws.{bytes_part, padded_is}
use Rattle.store.specs.Layout.{slot_size, state_at, key_length_at, field_length_at, value_length_at, empty_state, expiring_state, version_at, version_size, expiry_at, expiry_size, key_at, key_most, field_at, field_most, value_at, value_most, time_limit}
use Rattle.store.specs.Store.{Slot, decode_expiry, decode_entry, decode_slot, state_of, instant_of, encode_entry, encode_slot, zero_beyond, length_tests, expiry_tests, place_tests, held_well, slot_well}
use Rattle.store.specs.Valid.{Fits, FitsSlot}
use Rattle.store.proofs.Pieces.{total, cut, flatten_cut, length_part, take_part, number_back, number_below, zeros_are}
use Rattle.store.proofs.SlotBytes.{sizes, pieces, encode_pieces}

-- what the tests of a held slot say
pub record HeldTests (t : List ℕ) : Type 0 where
  pub state : get_or t state_at 0 ≤ expiring_state
  pub key : get_or t key_length_at 0 ≤ key_most
  pub field : get_or t field_length_at 0 ≤ field_most
  pub value : get_or t value_length_at 0 ≤ value_most
  pub never : (eqb (get_or t state_at 0) expiring_state || all_zero (part expiry_at expiry_size t)) ≡ true
  pub expiry : from_le (part expiry_at expiry_size t) ≤ time_limit
  pub key_beyond : zero_beyond key_at key_most (get_or t key_length_at 0) t ≡ true
  pub field_beyond : zero_beyond field_at field_most (get_or t field_length_at 0) t ≡ true
  pub value_beyond : zero_beyond value_at value_most (get_or t value_length_at 0) t ≡ true

-- bytes that pass the tests of a held slot pass each of them
pub held_well_lem : (t : List ℕ) → held_well t ≡ true → HeldTests t
unfolding held_well length_tests expiry_tests place_tests
held_well_lem t h =
    let lengths : every (length_tests t) ≡ true = every_at _ h 0 in
    let expires : every (expiry_tests t) ≡ true = every_at _ h 1 in
    let places : every (place_tests t) ≡ true = every_at _ h 2 in
    record {
      state = leb-true (get_or t state_at 0) expiring_state (every_at _ lengths 0);
      key = leb-true (get_or t key_length_at 0) key_most (every_at _ lengths 1);
      field = leb-true (get_or t field_length_at 0) field_most (every_at _ lengths 2);
      value = leb-true (get_or t value_length_at 0) value_most (every_at _ lengths 3);
      never = every_at _ expires 0;
      expiry = leb-true (from_le (part expiry_at expiry_size t)) time_limit (every_at _ expires 1);
      key_beyond = every_at _ places 0;
      field_beyond = every_at _ places 1;
      value_beyond = every_at _ places 2;
    }

-- ---- the pieces of a slot's bytes, each written back from what it means

-- a place that is zero beyond a length is the bytes used, padded
pub place_padded : (at size used : ℕ) (t : List ℕ) → at + size ≤ length t → used ≤ size → zero_beyond at size used t ≡ true → padded size (part at used t) ≡ part at size t
unfolding zero_beyond
place_padded at size used t l u z = rw (← take_part at used size t) (padded_is size used (part at size t) (length_part at size t l) u z)

first_four : (t : List ℕ) → 4 ≤ length t → part 0 4 t ≡ get_or t 0 0 ∷ get_or t 1 0 ∷ get_or t 2 0 ∷ get_or t 3 0 ∷ []
unfolding part
first_four [] l = absurd (omega arith)
first_four (a ∷ []) l = absurd (omega arith)
first_four (a ∷ b ∷ []) l = absurd (omega arith)
first_four (a ∷ b ∷ c ∷ []) l = absurd (omega arith)
first_four (a ∷ b ∷ c ∷ d ∷ t) l = refl

module _ (t : List ℕ) (l : length t ≡ slot_size) (b : Bytes t) (w : HeldTests t) (n : get_or t state_at 0 ≡ empty_state → ⊥) where
  state_back : state_of (decode_expiry t) ≡ get_or t state_at 0
  unfolding decode_expiry state_of
  state_back = go (eqb (get_or t state_at 0) expiring_state) refl
    where
      go : (x : Bool) → eqb (get_or t state_at 0) expiring_state ≡ x → state_of (cond x (Some (from_le (part expiry_at expiry_size t))) None) ≡ get_or t state_at 0
      go true q = sym (eqb-true (get_or t state_at 0) expiring_state q)
      go false q =
          let h : get_or t state_at 0 ≢ 2 = eqb-false (get_or t state_at 0) expiring_state q in
          let m : get_or t state_at 0 ≢ 0 = n in
          omega arith

  expiry_back : to_le expiry_size (instant_of (decode_expiry t)) ≡ part expiry_at expiry_size t
  unfolding decode_expiry instant_of to_le
  expiry_back = go (eqb (get_or t state_at 0) expiring_state) w.never
    where
      go : (x : Bool) → (x || all_zero (part expiry_at expiry_size t)) ≡ true
          → to_le expiry_size (instant_of (cond x (Some (from_le (part expiry_at expiry_size t))) None)) ≡ part expiry_at expiry_size t
      go true q = number_back expiry_at expiry_size t (omega arith) b
      go false q = sym (zeros_are expiry_size (part expiry_at expiry_size t) (length_part expiry_at expiry_size t (omega arith)) q)

  expiry_most : instant_of (decode_expiry t) ≤ time_limit
  unfolding decode_expiry instant_of
  expiry_most = go (eqb (get_or t state_at 0) expiring_state)
    where
      go : (x : Bool) → instant_of (cond x (Some (from_le (part expiry_at expiry_size t))) None) ≤ time_limit
      go true = w.expiry
      go false = omega arith

  key_length : length (part key_at (get_or t key_length_at 0) t) ≡ get_or t key_length_at 0
  key_length = length_part key_at (get_or t key_length_at 0) t (omega arith)

  field_length : length (part field_at (get_or t field_length_at 0) t) ≡ get_or t field_length_at 0
  field_length = length_part field_at (get_or t field_length_at 0) t (omega arith)

  value_length : length (part value_at (get_or t value_length_at 0) t) ≡ get_or t value_length_at 0
  value_length = length_part value_at (get_or t value_length_at 0) t (omega arith)

  pieces_back : pieces (decode_entry t) ≡ cut 0 sizes t
  unfolding pieces cut sizes decode_entry
  pieces_back =
      rw (
        state_back,
        key_length,
        field_length,
        value_length,
        number_back version_at version_size t (omega arith) b,
        expiry_back,
        place_padded key_at key_most (get_or t key_length_at 0) t (omega arith) w.key w.key_beyond,
        place_padded field_at field_most (get_or t field_length_at 0) t (omega arith) w.field w.field_beyond,
        place_padded value_at value_most (get_or t value_length_at 0) t (omega arith) w.value w.value_beyond,
        first_four t (omega arith),
      )

  encode_decode_entry : encode_entry (decode_entry t) ≡ t
  unfolding sizes total
  encode_decode_entry = rw (encode_pieces, pieces_back) (flatten_cut sizes 0 t (omega arith))

  decode_fits_entry : Fits (decode_entry t)
  unfolding decode_entry
  decode_fits_entry =
      record {
        short = record { key = rw key_length w.key; field = rw field_length w.field; value = rw value_length w.value };
        version = omega (arith, number_below version_at version_size t (omega arith) b);
        expiry = expiry_most;
        key_bytes = bytes_part key_at (get_or t key_length_at 0) t b;
        field_bytes = bytes_part field_at (get_or t field_length_at 0) t b;
        value_bytes = bytes_part value_at (get_or t value_length_at 0) t b;
      }

-- ---- any slot

module _ (t : List ℕ) (l : length t ≡ slot_size) (b : Bytes t) (w : slot_well t ≡ true) where
  -- what holds of an empty slot and of a held one holds of what the slot means
  slot_either : (P : Slot → Type 0) → (all_zero t ≡ true → P None) → (HeldTests t → (get_or t state_at 0 ≡ empty_state → ⊥) → P (Some (decode_entry t))) → P (decode_slot t)
  unfolding decode_slot slot_well
  slot_either P p q = go (eqb (get_or t state_at 0) empty_state) refl w
    where
      go : (x : Bool) → eqb (get_or t state_at 0) empty_state ≡ x → cond x (all_zero t) (held_well t) ≡ true → P (cond x None (Some (decode_entry t)))
      go true e h = p h
      go false e h = q (held_well_lem t h) (eqb-false (get_or t state_at 0) empty_state e)

  -- a slot's bytes are the bytes of what they mean
  pub encode_decode_slot : encode_slot (decode_slot t) ≡ t
  unfolding encode_slot
  encode_decode_slot = slot_either (λ s. encode_slot s ≡ t) (λ h. sym (zeros_are slot_size t l h)) (encode_decode_entry t l b)

  -- what a slot's bytes mean fits a slot
  pub decode_fits_slot : FitsSlot (decode_slot t)
  decode_fits_slot = slot_either FitsSlot (λ h. tt) (decode_fits_entry t l b)
