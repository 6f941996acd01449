-- What the functions of the store ask and answer, in the terms of the other definitions.
use Rattle.std.specs.Prelude.{Option, None, option_map}
use Rattle.std.specs.Prelude.{◌≡◌, Bool, true, false, cond, ◌&&◌, List, [], ◌∷◌, map, ◌++◌, ℕ, ◌+◌, ◌-◌, ◌*◌, ◌/◌, ◌%◌, ◌^◌, ◌≤◌, ◌<◌, ltb, eqb, length, take, drop, get_or, set}
use Rattle.std.specs.Int.Bits.{bit_and, bit_or, bit_xor}
use denote.Ref.{Bor}
use Rattle.wire.specs.Lists.{every, all, any}
use Rattle.wire.specs.Bytes.{Bytes, from_le, part, to_le}
use Rattle.store.specs.declared.Searched.{Searched}
use Rattle.store.specs.Layout.{header_size, slot_size, state_at, key_length_at, key_at, key_most, field_at, field_most, empty_state, version_size, expiry_size}
use Rattle.store.specs.Store.{Entry, with_version, with_expiry, Slot, Store, with_slots, decode_slot, slots_in, decode, slots_within, slot_count, slot_well, size_tests, well_formed, instant_of, holds, clash, distinct, state_of}
use Rattle.store.specs.Valid.{Short, Fits}
use Rattle.store.specs.Time.{lowest_slot, empty_slot}
use Rattle.store.specs.Search.{compared}

-- ---- one slot's bytes

pub record SlotBytes (t : List ℕ) : Type 0 where
  pub size : length t ≡ slot_size
  pub bytes : Bytes t
  pub well : slot_well t ≡ true

-- that hold an entry
pub record HeldBytes (t : List ℕ) : Type 0 where
  pub slot : SlotBytes t
  pub held : get_or t state_at 0 ≡ empty_state → ⊥

-- the numbers that the six words of a key and a field spell, each with zero after it in its place
unfoldable pub name_words : List ℕ → List ℕ → List ℕ
name_words k f =
    from_le (part 0 8 k)
    ∷ from_le (part 8 8 k)
    ∷ from_le (part 0 8 f)
    ∷ from_le (part 8 8 f)
    ∷ from_le (part 16 8 f)
    ∷ from_le (part 24 8 f)
    ∷ []

-- how many bytes of a key of a size and then of the field stand before word w, in which they have bytes
unfoldable pub run_start : ℕ → ℕ → ℕ
run_start w size = cond (ltb w 2) (8 * w) (size + 8 * (w - 2))

-- a number of a field's first 16 bytes
unfoldable pub fingerprint_of : List ℕ → ℕ
fingerprint_of f = bit_xor (from_le (part 0 8 f)) (from_le (part 8 8 f))

-- ---- which bytes are a store

-- how many slots bytes of a size have, 0 where it is no store's
unfoldable pub count_for : ℕ → ℕ
count_for size = cond (every (size_tests size)) (slots_within size) 0

-- the bytes of slot i
abbrev pub slot_at : List ℕ → ℕ → List ℕ
slot_at b i = part (header_size + slot_size * i) slot_size b

-- what the first slots hold
unfoldable pub slots_of : ℕ → List ℕ → List Slot
slots_of count b = map decode_slot (slots_in count (drop header_size b))

-- bytes with well-formed slots from a slot on
pub record SlotsWell (count : ℕ) (b : List ℕ) (from : ℕ) : Type 0 where
  pub size : header_size + slot_size * count ≤ length b
  pub bytes : Bytes b
  pub well : (j : ℕ) → from ≤ j → j < count → slot_well (slot_at b j) ≡ true

-- every slot is well formed, and no two have the same name
unfoldable pub slots_good : ℕ → List ℕ → Bool
slots_good count b = all slot_well (slots_in count (drop header_size b)) && distinct (slots_of count b)

-- the bits of two halves of words of a place
unfoldable pub halves_at : ℕ → ℕ → List ℕ → ℕ
halves_at i j s = bit_xor (from_le (part i 4 s)) (from_le (part j 4 s)) % 2 ^ 32

-- the halves of a key and of a field, padded to their places, each times its factor
unfoldable pub key_sum : List ℕ → ℕ
key_sum k = halves_at 0 8 k * 0x11db208f + halves_at 4 12 k * 0x1d1c4bb3

unfoldable pub field_sum : List ℕ → ℕ
field_sum f =
    halves_at 0 16 f * 0x103ce9df
    + halves_at 4 20 f * 0x16deceb9
    + (halves_at 8 24 f * 0x1a6b3c95 + halves_at 12 28 f * 0x13579bdf)

-- a number below 2 ^ 32 of two sums, with what is high in them brought down
unfoldable pub spread_of : ℕ → ℕ → ℕ
spread_of x y = bit_xor (x + y) ((x + y) / 2 ^ 31) % 2 ^ 32

-- a number of a slot's key and field
unfoldable pub name_hash : List ℕ → ℕ
name_hash t = spread_of (key_sum (part key_at key_most t)) (field_sum (part field_at field_most t))

-- The names seen are kept in a Bloom filter: the hash of each sets two bits of one of its words.
pub record FilterSize (m : List ℕ) : Type 0 where
  pub least : 1 ≤ length m
  pub most : length m ≤ 512

unfoldable pub word_of : ℕ → List ℕ → ℕ
word_of name m = bit_and name (length m - 1)

unfoldable pub bits_of : ℕ → ℕ
bits_of name = bit_or (2 ^ (name / 1024 % 64)) (2 ^ (name / 65536 % 64))

-- a name's bits are set where setting them changes nothing
unfoldable pub may_contain : ℕ → List ℕ → Bool
may_contain name m = eqb (bit_or (get_or m (word_of name m) 0) (bits_of name)) (get_or m (word_of name m) 0)

unfoldable pub with_name : ℕ → List ℕ → List ℕ
with_name name m = set m (word_of name m) (bit_or (get_or m (word_of name m) 0) (bits_of name))

-- the filter with a slot's name
unfoldable pub with_slot_name : List ℕ → List ℕ → List ℕ
with_slot_name t m = cond (eqb (get_or t state_at 0) empty_state) m (with_name (name_hash t) m)

-- the name of every slot from slot i on that holds an entry is in the filter
pub record Covered (count : ℕ) (b : List ℕ) (i : ℕ) (m : List ℕ) : Type 0 where
  pub size : FilterSize m
  pub names : (j : ℕ) → i ≤ j → j < count → (get_or (slot_at b j) state_at 0 ≡ empty_state → ⊥) → may_contain (name_hash (slot_at b j)) m ≡ true

-- slot i, which is well formed as those after it are, is to be looked at, with the filter of the names after it
pub record Turn (count : ℕ) (b : List ℕ) (i : ℕ) (m : List ℕ) : Type 0 where
  pub slots : SlotsWell count b i
  pub inside : i < count
  pub covered : Covered count b (i + 1) m

-- whether slot i has the name of a later one, and the filter with its own
pub record Turned (count : ℕ) (b : List ℕ) (i : ℕ) (before after : List ℕ) (r : Bool) : Type 0 where
  pub answer : r ≡ any (clash (decode_slot (slot_at b i))) (drop (i + 1) (slots_of count b))
  pub filter : after ≡ with_slot_name (slot_at b i) before

-- ---- a store

-- slot i of a well-formed store holds an entry
pub record Held (b : List ℕ) (i : ℕ) : Type 0 where
  pub well : well_formed b ≡ true
  pub inside : i < slot_count b
  pub held : empty_slot (get_or (decode b).slots i None) ≡ false

-- bytes are a well-formed store that holds s
pub record Holds (b : List ℕ) (s : Store) : Type 0 where
  pub means : decode b ≡ s
  pub well : well_formed b ≡ true

-- ---- searches

-- a test may be called at the bytes of any slot
abbrev pub TakesSlots : (Bor (List ℕ) → Type 0) → Type 0
TakesSlots pre = (t : Bor (List ℕ)) → SlotBytes t.now → pre t

-- and answers what p says of what the slot holds
abbrev pub TellsSlots : (Bor (List ℕ) → Bool → Type 0) → (Slot → Bool) → Type 0
TellsSlots post p = (t : Bor (List ℕ)) (r : Bool) → SlotBytes t.now → post t r → r ≡ p (decode_slot t.now)

-- the lowest slot from slot i on of which p holds
unfoldable pub lowest_from : ℕ → (Slot → Bool) → List Slot → Option ℕ
lowest_from i p ss = option_map (λ j. i + j) (lowest_slot p (drop i ss))

-- "The search .. also hands back how many bytes it compared"
unfoldable pub searched : List ℕ → List ℕ → List Slot → Searched
searched k f ss = record { found = lowest_slot (holds k f) ss; compared = compared k f ss }

-- the same among the slots from i up to n
unfoldable pub searched_within : ℕ → ℕ → List ℕ → List ℕ → List Slot → Searched
searched_within i n k f ss = record { found = lowest_from i (holds k f) (take n ss); compared = compared k f (drop i (take n ss)) }

-- from a slot to another, no slot holds a field of a fingerprint
pub record Skips (fingerprint from : ℕ) (ss : List Slot) (r : ℕ) : Type 0 where
  pub later : from ≤ r
  pub rest : (k f : List ℕ) → fingerprint ≡ fingerprint_of f → lowest_from from (holds k f) ss ≡ lowest_from r (holds k f) ss

-- ---- changes

abbrev pub with_slot : ℕ → Slot → Store → Store
with_slot i x s = with_slots (set s.slots i x) s

-- an entry with another version and expiry
abbrev pub stamped : ℕ → Option ℕ → Entry → Entry
stamped n x e = with_version n (with_expiry x e)

-- a slot's bytes with another state, version and expiry
unfoldable pub stamped_bytes : ℕ → Option ℕ → List ℕ → List ℕ
stamped_bytes n x t = (state_of x ∷ part key_length_at 3 t) ++ (to_le version_size n ++ (to_le expiry_size (instant_of x) ++ drop key_at t))

-- a key, a field and a value fit a slot's bytes
pub record Writable (t k f v : List ℕ) : Type 0 where
  pub size : length t ≡ slot_size
  pub short : Short k f v

-- an entry fits a slot of a well-formed store, and no other slot holds its key and field
pub record Placeable (b : List ℕ) (i : ℕ) (e : Entry) : Type 0 where
  pub well : well_formed b ≡ true
  pub inside : i < slot_count b
  pub fits : Fits e
  pub alone : (j : ℕ) → (i ≡ j → ⊥) → holds e.key e.field (get_or (decode b).slots j None) ≡ false
