-- A store and its bytes: each is read back from the other.
use mathlib.Core.Path.{◌≡◌, refl, sym, ap, ◌∙◌}
use mathlib.Core.Bool.{true}
use mathlib.Core.List.{List, [], ◌∷◌, ◌++◌, map, flatten, append_assoc}
use Prim.Native.Nat.{ℕ, zero, suc, ◌+◌, ◌*◌, ◌≤◌, ◌<◌}
use native.Mathlib.Omega.{arith}
use lib.ListN.{length, take, drop, replicate, length-append, length-drop, take-append-drop, length-map}
use lib.Seq.{take_at, drop_at, take-add, length-take-le}
use borrow.Author.Tests.{leb-true, ltb-true, eqb-true, le-leb, lt-ltb, eq-eqb}
use Rattle.wire.specs.Lists.{every, all}
use Rattle.wire.specs.Bytes.{Bytes, from_le, to_le, part, all_zero}
use Rattle.wire.proofs.Lists.{and_both, and_left, and_right, every_at}
use Rattle.wire.proofs.ByteLaws.{bytes_append, bytes_take, bytes_drop, bytes_to_le, bytes_zeros, from_le_to_le, length_to_le, zero_replicate}
use Rattle.store.specs.Layout.{header_size, slot_size, slots_most, clock_size, reserved_size, time_limit}
use Rattle.store.specs.Store.{Slot, Store, decode_slot, slots_in, slot_count, slot_bytes, clock_of, decode, encode_slot, encode, slot_well, distinct, size_tests, header_tests, well_formed}
use Rattle.store.specs.Valid.{AllFit, Valid}
use Rattle.store.proofs.Pieces.{length_part, number_back, zeros_are}
use Rattle.store.proofs.SlotBytes.{length_encode_slot, decode_encode_slot, well_encode_slot, bytes_encode_slot}
use Rattle.store.proofs.WellSlot.{encode_decode_slot, decode_fits_slot}
use Rattle.store.proofs.Distinct.{distinct_apart, apart_distinct}

-- ---- slots one after another

abbrev slots_out : List Slot → List ℕ
slots_out ss = flatten (map encode_slot ss)

length_slots_out : (ss : List Slot) → AllFit ss → length (slots_out ss) ≡ slot_size * length ss
unfolding flatten
length_slots_out [] a = refl
length_slots_out (s ∷ ss) a = rw (length-append, length_encode_slot s (a 0), length_slots_out ss (λ i. a (suc i))) (omega arith)

bytes_slots_out : (ss : List Slot) → AllFit ss → Bytes (slots_out ss)
unfolding flatten
bytes_slots_out [] a = refl
bytes_slots_out (s ∷ ss) a = bytes_append (encode_slot s) (slots_out ss) (bytes_encode_slot s (a 0)) (bytes_slots_out ss (λ i. a (suc i)))

-- the slots are found again
slots_in_slots_out : (ss : List Slot) → AllFit ss → slots_in (length ss) (slots_out ss) ≡ map encode_slot ss
unfolding flatten slots_in
slots_in_slots_out [] a = refl
slots_in_slots_out (s ∷ ss) a =
    let l : length (encode_slot s) ≡ slot_size = length_encode_slot s (a 0) in
    rw (take_at (encode_slot s) (slots_out ss) slot_size l, drop_at (encode_slot s) (slots_out ss) slot_size l, slots_in_slots_out ss (λ i. a (suc i)))

decode_slots : (ss : List Slot) → AllFit ss → map decode_slot (map encode_slot ss) ≡ ss
decode_slots [] a = refl
decode_slots (s ∷ ss) a = rw (decode_encode_slot s (a 0), decode_slots ss (λ i. a (suc i)))

well_slots : (ss : List Slot) → AllFit ss → all slot_well (map encode_slot ss) ≡ true
unfolding all
well_slots [] a = refl
well_slots (s ∷ ss) a = and_both (well_encode_slot s (a 0)) (well_slots ss (λ i. a (suc i)))

-- ---- a valid store's bytes

module _ (s : Store) (v : Valid s) where
  header : List ℕ
  header = to_le clock_size s.clock ++ replicate reserved_size 0

  length_header : length header ≡ header_size
  unfolding header
  length_header = rw (length-append, length_to_le)

  -- a store of n slots has 16 + 128 * n bytes
  pub length_encode : length (encode s) ≡ header_size + slot_size * length s.slots
  unfolding encode header
  length_encode = rw (length-append header, length_header, length_slots_out s.slots v.fits)

  -- a store's bytes have as many slots as it
  pub count_encode : slot_count (encode s) ≡ length s.slots
  unfolding slot_count
  count_encode = rw length_encode (omega arith)

  -- the bytes of each slot are those of what it holds
  pub slots_encode : slot_bytes (encode s) ≡ map encode_slot s.slots
  unfolding slot_bytes encode header
  slots_encode =
      rw (count_encode, drop_at header (slots_out s.slots) header_size length_header)
      (slots_in_slots_out s.slots v.fits)

  split : encode s ≡ to_le clock_size s.clock ++ (replicate reserved_size 0 ++ slots_out s.slots)
  unfolding encode
  split = append_assoc (to_le clock_size s.clock) (replicate reserved_size 0) (slots_out s.slots)

  -- the clock is read back
  pub clock_encode : clock_of (encode s) ≡ s.clock
  unfolding clock_of
  clock_encode =
      rw (split, take_at (to_le clock_size s.clock) (replicate reserved_size 0 ++ slots_out s.slots) clock_size (length_to_le clock_size s.clock))
      (from_le_to_le clock_size s.clock (omega (arith, v.clock)))

  reserved_encode : all_zero (part clock_size reserved_size (encode s)) ≡ true
  unfolding part
  reserved_encode =
      rw (split, drop_at (to_le clock_size s.clock) (replicate reserved_size 0 ++ slots_out s.slots) clock_size (length_to_le clock_size s.clock))
      (zero_replicate reserved_size)

  -- a store's bytes are bytes
  pub bytes_encode : Bytes (encode s)
  bytes_encode =
      rw split
      (bytes_append (to_le clock_size s.clock) (replicate reserved_size 0 ++ slots_out s.slots) (bytes_to_le clock_size s.clock)
      (bytes_append (replicate reserved_size 0) (slots_out s.slots) (bytes_zeros reserved_size) (bytes_slots_out s.slots v.fits)))

  slots_decode : (decode (encode s)).slots ≡ s.slots
  unfolding decode
  slots_decode = rw slots_encode (decode_slots s.slots v.fits)

  -- a valid store is read back from its bytes
  pub decode_encode : decode (encode s) ≡ s
  unfolding decode
  decode_encode = λ i. record { clock = clock_encode i; slots = slots_decode i }

  -- a valid store's bytes are a store
  pub encode_well : well_formed (encode s) ≡ true
  unfolding well_formed slot_count size_tests header_tests every
  encode_well =
      rw (count_encode, slots_decode, slots_encode, clock_encode)
      (and_both bytes_encode
      (and_both
      (and_both (eq-eqb (length (encode s)) (header_size + slot_size * length s.slots) length_encode)
      (and_both (le-leb 1 (length s.slots) v.least) (and_both (le-leb (length s.slots) slots_most v.most) refl)))
      (and_both
      (and_both (lt-ltb s.clock time_limit v.clock) (and_both reserved_encode refl))
      (and_both (well_slots s.slots v.fits) (and_both (apart_distinct s.slots v.apart) refl)))))

-- ---- the bytes of slots that pass their test

record WellSlots (n : ℕ) (t : List ℕ) : Type 0 where
  size : length t ≡ slot_size * n
  bytes : Bytes t
  well : all slot_well (slots_in n t) ≡ true

module _ (n : ℕ) (t : List ℕ) (w : WellSlots (suc n) t) where
  first_size : length (take slot_size t) ≡ slot_size
  first_size = length-take-le slot_size t (omega arith)

  first_bytes : Bytes (take slot_size t)
  first_bytes = bytes_take slot_size t w.bytes

  first_well : slot_well (take slot_size t) ≡ true
  unfolding slots_in all
  first_well = and_left (slot_well (take slot_size t)) (all slot_well (slots_in n (drop slot_size t))) w.well

  others_well : WellSlots n (drop slot_size t)
  unfolding slots_in all
  others_well =
      record {
        size = rw length-drop (omega arith);
        bytes = bytes_drop slot_size t w.bytes;
        well = and_right (slot_well (take slot_size t)) (all slot_well (slots_in n (drop slot_size t))) w.well;
      }

slots_back : (n : ℕ) (t : List ℕ) → WellSlots n t → slots_out (map decode_slot (slots_in n t)) ≡ t
unfolding slots_in flatten
slots_back zero [] w = refl
slots_back zero (x ∷ t) w = absurd (omega arith)
slots_back (suc n) t w =
    rw (encode_decode_slot (take slot_size t) (first_size n t w) (first_bytes n t w) (first_well n t w), slots_back n (drop slot_size t) (others_well n t w))
    (take-append-drop slot_size t)

slots_fit : (n : ℕ) (t : List ℕ) → WellSlots n t → AllFit (map decode_slot (slots_in n t))
unfolding slots_in
slots_fit zero t w i = tt
slots_fit (suc n) t w zero = decode_fits_slot (take slot_size t) (first_size n t w) (first_bytes n t w) (first_well n t w)
slots_fit (suc n) t w (suc i) = slots_fit n (drop slot_size t) (others_well n t w) i

-- the bytes of the first n slots are n pieces
pub length_slots_in : (n : ℕ) (t : List ℕ) → length (slots_in n t) ≡ n
unfolding slots_in
length_slots_in zero t = refl
length_slots_in (suc n) t = ap suc (length_slots_in n (drop slot_size t))

-- ---- well-formed bytes

-- what the tests of a store's bytes say
pub record WellFormed (b : List ℕ) : Type 0 where
  pub bytes : Bytes b
  pub size : length b ≡ header_size + slot_size * slot_count b
  pub least : 1 ≤ slot_count b
  pub most : slot_count b ≤ slots_most
  pub clock : clock_of b < time_limit
  pub reserved : all_zero (part clock_size reserved_size b) ≡ true
  pub slots : all slot_well (slot_bytes b) ≡ true
  pub apart : distinct (decode b).slots ≡ true

-- bytes that are a store pass each test
pub well_formed_lem : (b : List ℕ) → well_formed b ≡ true → WellFormed b
unfolding well_formed slot_count size_tests header_tests
well_formed_lem b h =
    let sized : every (size_tests (length b)) ≡ true = every_at _ h 1 in
    let headed : every (header_tests b) ≡ true = every_at _ h 2 in
    record {
      bytes = every_at _ h 0;
      size = eqb-true (length b) (header_size + slot_size * slot_count b) (every_at _ sized 0);
      least = leb-true 1 (slot_count b) (every_at _ sized 1);
      most = leb-true (slot_count b) slots_most (every_at _ sized 2);
      clock = ltb-true (clock_of b) time_limit (every_at _ headed 0);
      reserved = every_at _ headed 1;
      slots = every_at _ h 3;
      apart = every_at _ h 4;
    }

-- a store has as many slots as its bytes
pub length_decode : (b : List ℕ) → length (decode b).slots ≡ slot_count b
unfolding decode slot_bytes
length_decode b = rw (length-map, length_slots_in)

module _ (b : List ℕ) (h : well_formed b ≡ true) where
  tests : WellFormed b
  tests = well_formed_lem b h

  slots_well : WellSlots (slot_count b) (drop header_size b)
  unfolding slot_bytes
  slots_well =
      record {
        size = rw length-drop (omega (arith, tests.size));
        bytes = bytes_drop header_size b tests.bytes;
        well = tests.slots;
      }

  -- what well-formed bytes mean is a valid store
  pub decode_valid : Valid (decode b)
  unfolding decode slot_bytes
  decode_valid =
      record {
        clock = tests.clock;
        least = rw (length_decode b) tests.least;
        most = rw (length_decode b) tests.most;
        fits = slots_fit (slot_count b) (drop header_size b) slots_well;
        apart = distinct_apart (decode b).slots tests.apart;
      }

  header_back : to_le clock_size (clock_of b) ++ replicate reserved_size 0 ≡ take header_size b
  unfolding clock_of part
  header_back =
      let l : header_size ≤ length b = omega (arith, tests.size) in
      let c : to_le clock_size (from_le (take clock_size b)) ≡ take clock_size b = number_back 0 clock_size b (omega arith) tests.bytes in
      let z : part clock_size reserved_size b ≡ replicate reserved_size 0
      = zeros_are reserved_size (part clock_size reserved_size b) (length_part clock_size reserved_size b (omega arith)) tests.reserved in
      rw c (ap (λ (x : List ℕ). take clock_size b ++ x) (sym z) ∙ sym (take-add clock_size reserved_size b))

  -- well-formed bytes are those of the store that they mean
  pub encode_decode : encode (decode b) ≡ b
  unfolding encode decode slot_bytes
  encode_decode = rw (header_back, slots_back (slot_count b) (drop header_size b) slots_well) (take-append-drop header_size b)
