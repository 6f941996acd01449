-- Where a slot's bytes stand in a store's.
use Rattle.std.specs.Prelude.{None}
use mathlib.Core.Path.{◌≡◌, refl, ◌∙◌}
use mathlib.Core.List.{List, []}
use Prim.Native.Nat.{ℕ, zero, suc, ◌+◌, ◌*◌, ◌<◌}
use native.Mathlib.Omega.{arith}
use lib.ListN.{length, take, drop, get_or, get_or-map}
use lib.Seq.{drop-drop}
use Rattle.wire.specs.Bytes.{part}
use Rattle.store.specs.Layout.{header_size, slot_size}
use Rattle.store.specs.Store.{Store, decode_slot, slots_in, slot_count, slot_bytes, decode, encode_slot, encode}
use Rattle.store.specs.Valid.{Valid}
use Rattle.store.proofs.Encode.{count_encode, slots_encode}

-- the bytes of slot i of the first n stand at 128 * i
pub slots_in_at : (n : ℕ) (t : List ℕ) (i : ℕ) (d : List ℕ) → i < n → get_or (slots_in n t) i d ≡ take slot_size (drop (slot_size * i) t)
unfolding slots_in
slots_in_at zero t i d l = absurd (omega arith)
slots_in_at (suc n) t zero d l = refl
slots_in_at (suc n) t (suc i) d l =
    let e : slot_size * suc i ≡ slot_size + slot_size * i = omega arith in
    rw (e, ← drop-drop (slot_size * i) slot_size t) (slots_in_at n (drop slot_size t) i d (omega arith))

-- the bytes of slot i stand at 16 + 128 * i
pub slot_part : (b : List ℕ) (i : ℕ) (d : List ℕ) → i < slot_count b → get_or (slot_bytes b) i d ≡ part (header_size + slot_size * i) slot_size b
unfolding slot_bytes part
slot_part b i d l = rw (← drop-drop (slot_size * i) header_size b) (slots_in_at (slot_count b) (drop header_size b) i d l)

-- a store's slot is what its bytes mean
pub decode_at : (b : List ℕ) (i : ℕ) → i < slot_count b → get_or (decode b).slots i None ≡ decode_slot (part (header_size + slot_size * i) slot_size b)
unfolding decode decode_slot
decode_at b i l = get_or-map decode_slot (slot_bytes b) i [] ∙ rw (slot_part b i [] l)

-- a slot's bytes are those of what it holds, whatever the other slots hold
pub encode_at : (s : Store) → Valid s → (i : ℕ) → i < length s.slots → part (header_size + slot_size * i) slot_size (encode s) ≡ encode_slot (get_or s.slots i None)
encode_at s v i l =
    let m : i < slot_count (encode s) = rw (count_encode s v) l in
    rw (← slot_part (encode s) i (encode_slot None) m, slots_encode s v) (get_or-map encode_slot s.slots i None)
