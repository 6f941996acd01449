-- Slot i of a well-formed store: its bytes, and what they mean.
use Rattle.std.specs.Prelude.{None}
use mathlib.Core.Path.{◌≡◌, refl, sym}
use mathlib.Core.Bool.{true}
use mathlib.Core.List.{List, []}
use Prim.Native.Nat.{ℕ, ◌+◌, ◌-◌, ◌*◌, ◌/◌, ◌≤◌, ◌<◌}
use native.Mathlib.Omega.{arith}
use lib.ListN.{length, drop, get_or}
use lib.Seq.{drop-drop, take-take}
use Rattle.wire.specs.Lists.{or_else}
use Rattle.wire.specs.Bytes.{part}
use Rattle.wire.proofs.Lists.{all_at, both_ways}
use Rattle.wire.proofs.ByteLaws.{bytes_part}
use Rattle.store.specs.Layout.{header_size, slot_size, slots_most, state_at, value_length_at, value_at, empty_state, value_start}
use Rattle.store.specs.Store.{decode_slot, decode_entry, slot_count, slot_bytes, slot_well, decode, well_formed, entry_at}
use Rattle.store.specs.Time.{empty_slot}
use Rattle.store.specs.Promises.{SlotBytes, HeldBytes, Held, slot_at}
use Rattle.store.proofs.Pieces.{length_part}
use Rattle.store.proofs.Encode.{well_formed_lem, length_decode, length_slots_in, decode_valid}
use Rattle.store.proofs.Places.{slot_part, decode_at}
use Rattle.store.proofs.SlotParts.{state_empty, state_held, value_inside}
use Rattle.store.proofs.SlotChecks.{drop_take}

-- a store has as many slots as its length says, after its header
pub count_slots : (b : List ℕ) → (length b - header_size) / slot_size ≡ length (decode b).slots
unfolding slot_count
count_slots b = sym (length_decode b)

-- the header stands in a store
pub header_inside : (b : List ℕ) → well_formed b ≡ true → header_size ≤ length b
header_inside b h = omega (arith, (well_formed_lem b h).size)

-- ---- a slot

module _ (b : List ℕ) (i : ℕ) (h : well_formed b ≡ true) (l : i < slot_count b) where
  -- the place of a slot stands in a store
  pub slot_inside : header_size + slot_size * i + slot_size ≤ length b
  slot_inside = omega (arith, (well_formed_lem b h).size)

  slot_well_lem : slot_well (slot_at b i) ≡ true
  unfolding slot_bytes
  slot_well_lem =
      let m : i < length (slot_bytes b) = rw length_slots_in l in
      rw (slot_part b i [] l) at (all_at slot_well (slot_bytes b) [] (well_formed_lem b h).slots i m)

  -- its bytes are a slot's
  pub slot_bytes_lem : {t : List ℕ} → t ≡ slot_at b i → SlotBytes t
  slot_bytes_lem e =
      rw e
      (record {
        size = length_part (header_size + slot_size * i) slot_size b slot_inside;
        bytes = bytes_part (header_size + slot_size * i) slot_size b (well_formed_lem b h).bytes;
        well = slot_well_lem;
      })

-- they mean what the store's slot holds
pub slot_means : (b : List ℕ) (i : ℕ) {t : List ℕ} → i < slot_count b → t ≡ slot_at b i → decode_slot t ≡ get_or (decode b).slots i None
slot_means b i l e = rw (e, decode_at b i l)

-- ---- a slot that holds an entry

module _ {b t : List ℕ} {i : ℕ} (h : Held b i) (e : t ≡ slot_at b i) where
  not_empty : get_or t state_at 0 ≡ empty_state → ⊥
  unfolding empty_slot or_else
  not_empty z = both_ways {t = empty_slot None} refl (rw (← slot_means b i h.inside e, state_empty t z) at h.held)

  -- its bytes are those of a slot that holds an entry
  pub held_bytes : HeldBytes t
  held_bytes = record { slot = slot_bytes_lem b i h.well h.inside e; held = not_empty }

  -- they mean the store's entry
  pub entry_means : decode_entry t ≡ entry_at (decode b).slots i
  unfolding entry_at or_else
  entry_means = rw (← slot_means b i h.inside e, state_held t not_empty)

-- a slot's number is small
pub held_few : {b : List ℕ} {i : ℕ} → Held b i → i < slots_most
held_few {b} h = omega (arith, h.inside, length_decode b, (decode_valid b h.well).most)

-- a part of a part
pub part_part : (at n a m : ℕ) (s : List ℕ) → a + m ≤ n → part a m (part at n s) ≡ part (at + a) m s
unfolding part
part_part at n a m s h = rw (drop_take a n (drop at s), drop-drop a at s) (take-take m (n - a) (drop (at + a) s) (omega arith))

-- its value stands at its place in the store's bytes
pub value_part : {b : List ℕ} {i : ℕ} → Held b i → part (value_start i) (length (entry_at (decode b).slots i).value) b ≡ (entry_at (decode b).slots i).value
unfolding decode_entry value_start
value_part {b} {i} h = rw (← entry_means {t = slot_at b i} h refl, size) (sym (part_part (header_size + slot_size * i) slot_size value_at n b (omega (arith, room, slot.slot.size))))
  where
    slot : HeldBytes (slot_at b i)
    slot = held_bytes h refl

    n : ℕ
    n = get_or (slot_at b i) value_length_at 0

    room : value_at + n ≤ length (slot_at b i)
    room = value_inside (slot_at b i) slot

    size : length (part value_at n (slot_at b i)) ≡ n
    size = length_part value_at n (slot_at b i) room

-- which lies in them
pub value_within : {b : List ℕ} {i : ℕ} → Held b i → value_start i + length (entry_at (decode b).slots i).value ≤ length b
unfolding decode_entry value_start
value_within {b} {i} h =
    let slot : HeldBytes (slot_at b i) = held_bytes h refl in
    let room : value_at + get_or (slot_at b i) value_length_at 0 ≤ length (slot_at b i) = value_inside (slot_at b i) slot in
    let size : length (part value_at (get_or (slot_at b i) value_length_at 0) (slot_at b i)) ≡ get_or (slot_at b i) value_length_at 0
    = length_part value_at (get_or (slot_at b i) value_length_at 0) (slot_at b i) room in
    rw (← entry_means {t = slot_at b i} h refl, size) (omega (arith, room, slot.slot.size, slot_inside b i h.well h.inside))
