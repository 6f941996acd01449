-- Bytes of a store written anew: those of one slot, or of the clock, and what the store then holds.
use Rattle.std.specs.Prelude.{Option, None, Some}
use mathlib.Core.Path.{◌≡◌, refl, sym, ap, subst, ◌∙◌}
use mathlib.Core.Bool.{Bool, true, false, cond, false≢true}
use mathlib.Core.List.{List, [], ◌∷◌, ◌++◌, map, flatten, append_assoc}
use Prim.Native.Nat.{ℕ, zero, suc, ◌+◌, ◌-◌, ◌*◌, ◌≤◌, ◌<◌}
use native.Mathlib.Omega.{arith}
use lib.Dec.{eqb}
use lib.ListN.{length, drop, get_or, set, replicate, length-append, length-set, length-drop}
use lib.Seq.{take_at, drop_at, take-add, drop-drop, length-take-le}
use borrow.Rule.Slice.PartMut.{mid_of, put_mid}
use Rattle.wire.specs.Lists.{or_else}
use Rattle.wire.specs.Bytes.{to_le, part}
use Rattle.wire.proofs.ByteLaws.{length_to_le}
use Rattle.store.specs.Layout.{header_size, slot_size, clock_size, reserved_size, time_limit, version_most}
use Rattle.store.specs.Store.{Entry, Slot, Store, slot_count, decode, encode_entry, encode_slot, encode, clash, instant_of, well_formed, with_clock, entry_at}
use Rattle.store.specs.Time.{empty_slot}
use Rattle.store.specs.Promises.{Held, Holds, Placeable, with_slot, stamped, stamped_bytes}
use Rattle.store.specs.Valid.{Fits, FitsSlot, AllFit, Valid}
use Rattle.store.proofs.Put.{get_d_set, apart_set}
use Rattle.store.proofs.SlotBytes.{length_encode_slot}
use Rattle.store.proofs.ReadAt.{header_inside}
use Rattle.store.proofs.Encode.{well_formed_lem, length_decode, decode_valid, encode_decode, decode_encode, encode_well}
use Rattle.store.proofs.Places.{encode_at}
use Rattle.store.proofs.Slots.{none_clash, apart_at}
use Rattle.store.proofs.SlotParts.{part_of}
use Rattle.store.proofs.Writing.{stamp_entry}

-- ---- bytes put in the place of others

-- the bytes of slot i, and a store's bytes with others in their place, as the code has them: the place ends at start + 128
abbrev pub slot_of : ℕ → List ℕ → List ℕ
slot_of i b = mid_of (header_size + slot_size * i) (header_size + slot_size * i + slot_size - (header_size + slot_size * i)) b

abbrev pub replaced : ℕ → List ℕ → List ℕ → List ℕ
replaced i b y = put_mid (header_size + slot_size * i) (header_size + slot_size * i + slot_size - (header_size + slot_size * i)) b y

-- after n bytes that stay
put_after : (h r y : List ℕ) (n m k : ℕ) → length h ≡ n → put_mid (n + m) k (h ++ r) y ≡ h ++ put_mid m k r y
put_after h r y n m k e = rw (take-add n m (h ++ r), ← drop-drop m n (h ++ r), take_at h r n e, drop_at h r n e, append_assoc)

-- the bytes of one slot among those of all
put_slot : (ss : List Slot) (i : ℕ) (x : Slot) → AllFit ss → i < length ss
    → put_mid (slot_size * i) slot_size (flatten (map encode_slot ss)) (encode_slot x) ≡ flatten (map encode_slot (set ss i x))
unfolding flatten
put_slot [] i x a l = absurd (omega arith)
put_slot (s ∷ ss) zero x a l = rw (drop_at (encode_slot s) (flatten (map encode_slot ss)) slot_size (length_encode_slot s (a 0)))
put_slot (s ∷ ss) (suc i) x a l =
    let e : slot_size * suc i ≡ slot_size + slot_size * i = omega arith in
    let again : put_mid (slot_size * i) slot_size (flatten (map encode_slot ss)) (encode_slot x) ≡ flatten (map encode_slot (set ss i x)) = put_slot ss i x (λ j. a (suc j)) (omega arith) in
    rw e (put_after (encode_slot s) (flatten (map encode_slot ss)) (encode_slot x) slot_size (slot_size * i) slot_size (length_encode_slot s (a 0)) ∙ ap (λ (z : List ℕ). encode_slot s ++ z) again)

module _ (s : Store) (v : Valid s) where
  -- in a store's bytes
  encode_slot_lem : (i : ℕ) (x : Slot) → i < length s.slots
      → put_mid (header_size + slot_size * i) slot_size (encode s) (encode_slot x) ≡ encode (with_slot i x s)
  unfolding encode
  encode_slot_lem i x l =
      let n : length (to_le clock_size s.clock ++ replicate reserved_size 0) ≡ header_size = rw (length-append, length_to_le) in
      put_after (to_le clock_size s.clock ++ replicate reserved_size 0) (flatten (map encode_slot s.slots)) (encode_slot x) header_size (slot_size * i) slot_size n
      ∙ ap (λ (z : List ℕ). (to_le clock_size s.clock ++ replicate reserved_size 0) ++ z) (put_slot s.slots i x v.fits l)

  -- those of the clock
  encode_clock : (t : ℕ) → put_mid 0 clock_size (encode s) (to_le clock_size t) ≡ encode (with_clock t s)
  unfolding encode
  encode_clock t =
      rw (
        append_assoc (to_le clock_size s.clock) (replicate reserved_size 0) (flatten (map encode_slot s.slots)),
        drop_at (to_le clock_size s.clock) (replicate reserved_size 0 ++ flatten (map encode_slot s.slots)) clock_size (length_to_le clock_size s.clock),
        append_assoc (to_le clock_size t) (replicate reserved_size 0) (flatten (map encode_slot s.slots)),
      )

  -- ---- a store stays valid

  -- with another slot that fits and clashes with no other
  slot_valid : (i : ℕ) (x : Slot) → i < length s.slots → FitsSlot x → ((j : ℕ) → (i ≡ j → ⊥) → clash x (get_or s.slots j None) ≡ false)
      → Valid (with_slot i x s)
  slot_valid i x l f a =
      record {
        clock = v.clock;
        least = rw (length-set s.slots i x) v.least;
        most = rw (length-set s.slots i x) v.most;
        fits = λ j. rw (get_d_set s.slots i x l j) (each j (eqb j i));
        apart = apart_set s.slots i x l v.apart a;
      }
    where
      each : (j : ℕ) (t : Bool) → FitsSlot (cond t x (get_or s.slots j None))
      each j true = f
      each j false = v.fits j

  -- with another clock
  clock_valid : (t : ℕ) → t < time_limit → Valid (with_clock t s)
  clock_valid t l = record { clock = l; least = v.least; most = v.most; fits = v.fits; apart = v.apart }

-- the bytes of a valid store hold it
encode_holds : {b : List ℕ} {s : Store} → b ≡ encode s → Valid s → Holds b s
encode_holds {b} {s} e v = record { means = rw e (decode_encode s v); well = rw e (encode_well s v) }

module _ (b : List ℕ) (h : well_formed b ≡ true) where
  -- the clock's bytes written anew
  pub clock_written : (t : ℕ) → t < time_limit → Holds (put_mid 0 clock_size b (to_le clock_size t)) (with_clock t (decode b))
  clock_written t l =
      encode_holds (ap (λ (z : List ℕ). put_mid 0 clock_size z (to_le clock_size t)) (sym (encode_decode b h)) ∙ encode_clock (decode b) (decode_valid b h) t)
      (clock_valid (decode b) (decode_valid b h) t l)

  -- as the code has them
  pub clock_laid : (t : ℕ) (y : List ℕ) → t < time_limit → y ≡ to_le (length (mid_of 0 clock_size b)) t → Holds (put_mid 0 clock_size b y) (with_clock t (decode b))
  clock_laid t y l q =
      let e : length (mid_of 0 clock_size b) ≡ clock_size = length-take-le clock_size b (omega (arith, header_inside b h)) in
      rw (q, e) (clock_written t l)

  module _ (i : ℕ) (l : i < slot_count b) where
    -- there is such a slot
    inside : i < length (decode b).slots
    inside = rw (length_decode b) l

    -- a slot's bytes written anew
    pub slot_written : (x : Slot) → FitsSlot x → ((j : ℕ) → (i ≡ j → ⊥) → clash x (get_or (decode b).slots j None) ≡ false)
        → Holds (put_mid (header_size + slot_size * i) slot_size b (encode_slot x)) (with_slot i x (decode b))
    slot_written x f a =
        encode_holds (ap (λ (z : List ℕ). put_mid (header_size + slot_size * i) slot_size z (encode_slot x)) (sym (encode_decode b h)) ∙ encode_slot_lem (decode b) (decode_valid b h) i x inside)
        (slot_valid (decode b) (decode_valid b h) i x inside f a)

    -- a slot's bytes are those of what it holds
    pub slot_read : part (header_size + slot_size * i) slot_size b ≡ encode_slot (get_or (decode b).slots i None)
    slot_read = ap (λ (z : List ℕ). part (header_size + slot_size * i) slot_size z) (sym (encode_decode b h)) ∙ encode_at (decode b) (decode_valid b h) i inside

    -- a slot's bytes are 128
    size : length (slot_of i b) ≡ slot_size
    size =
        let e : header_size + slot_size * i + slot_size - (header_size + slot_size * i) ≡ slot_size = omega arith in
        rw e (length-take-le slot_size (drop (header_size + slot_size * i) b) (rw length-drop (omega (arith, (well_formed_lem b h).size))))

    -- a slot's bytes are those of x
    slot_put : (x : Slot) (y : List ℕ) → FitsSlot x → ((j : ℕ) → (i ≡ j → ⊥) → clash x (get_or (decode b).slots j None) ≡ false) → y ≡ encode_slot x
        → Holds (replaced i b y) (with_slot i x (decode b))
    slot_put x y f a q =
        let e : header_size + slot_size * i + slot_size - (header_size + slot_size * i) ≡ slot_size = omega arith in
        rw (e, q) (slot_written x f a)

    -- a slot's bytes are zero
    pub slot_cleared : (y : List ℕ) → y ≡ replicate (length (slot_of i b)) 0
        → Holds (replaced i b y) (with_slot i None (decode b))
    unfolding encode_slot
    slot_cleared y q = slot_put None y tt (λ j d. none_clash (get_or (decode b).slots j None)) (q ∙ ap (λ (n : ℕ). replicate n 0) size)

-- an entry is put into a slot
pub slot_placed : (b : List ℕ) (i : ℕ) (e : Entry) (y : List ℕ) → Placeable b i e → y ≡ encode_entry e
    → Holds (replaced i b y) (with_slot i (Some e) (decode b))
unfolding encode_slot clash or_else
slot_placed b i e y p q =
    slot_put b p.well i p.inside (Some e) y p.fits p.alone q

-- a slot that is not empty holds its entry
pub held_entry : (ss : List Slot) (i : ℕ) → empty_slot (get_or ss i None) ≡ false → get_or ss i None ≡ Some (entry_at ss i)
unfolding entry_at empty_slot or_else
held_entry ss i h = go (get_or ss i None) refl
  where
    go : (o : Slot) → get_or ss i None ≡ o → get_or ss i None ≡ Some (entry_at ss i)
    go None q = let z : ◌≡◌ {A = Bool} true false = rw q at h in absurd (false≢true (sym z))
    go (Some e) q = q ∙ rw q

-- an entry with another version and expiry fits if these do
pub stamped_fits : {e : Entry} (n : ℕ) (x : Option ℕ) → Fits e → n ≤ version_most → instant_of x ≤ time_limit → Fits (stamped n x e)
stamped_fits n x h u w =
    record {
      short = h.short;
      version = u;
      expiry = w;
      key_bytes = h.key_bytes;
      field_bytes = h.field_bytes;
      value_bytes = h.value_bytes;
    }

-- the entry of a slot is stamped anew
module _ (b : List ℕ) (i : ℕ) (n : ℕ) (x : Option ℕ) (y : List ℕ) (p : Held b i) where
  old : Entry
  old = entry_at (decode b).slots i

  here : get_or (decode b).slots i None ≡ Some old
  unfolding old
  here = held_entry (decode b).slots i p.held

  fits : Fits old
  fits = subst FitsSlot here ((decode_valid b p.well).fits i)

  alone : (j : ℕ) → (i ≡ j → ⊥) → clash (Some (stamped n x old)) (get_or (decode b).slots j None) ≡ false
  unfolding clash or_else
  alone j d = rw here at (apart_at (decode b).slots (decode_valid b p.well).apart i j d)

  bytes : slot_of i b ≡ encode_entry old
  unfolding encode_slot
  bytes = part_of (header_size + slot_size * i) slot_size b ∙ slot_read b p.well i p.inside ∙ ap encode_slot here

  pub slot_stamped : n ≤ version_most → instant_of x ≤ time_limit
      → y ≡ stamped_bytes n x (slot_of i b)
      → Holds (replaced i b y)
      (with_slot i (Some (stamped n x (entry_at (decode b).slots i))) (decode b))
  unfolding encode_slot old
  slot_stamped u w q =
      slot_put b p.well i p.inside (Some (stamped n x old)) y
      (stamped_fits n x fits u w)
      alone
      (q ∙ ap (stamped_bytes n x) bytes ∙ stamp_entry old n x)
