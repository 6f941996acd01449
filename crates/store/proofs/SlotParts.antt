-- What a slot's parts are, in the forms in which the code takes them.
use Rattle.std.specs.Prelude.{None, Some}
use mathlib.Core.Path.{◌≡◌, refl, sym, ap, ◌∙◌}
use mathlib.Core.Bool.{Bool, true, false, cond, not, ◌&&◌, and-true, and-false}
use mathlib.Core.List.{List, ◌++◌}
use Prim.Native.Nat.{ℕ, ◌+◌, ◌-◌, ◌≤◌, ◌<◌}
use native.Mathlib.Omega.{arith}
use lib.Bits.{bit_xor, xor_zero_r}
use lib.Dec.{eqb}
use lib.ListN.{length, take, drop, get_or, length-take, length-drop, take-append-drop, drop_of_length-le}
use lib.Seq.{take_all}
use borrow.Author.Tests.{eq-eqb, ne_eqb, eqb-true, eqb-false}
use Rattle.wire.specs.Lists.{or_else}
use Rattle.wire.specs.Bytes.{Bytes, part, padded, same, from_le}
use Rattle.wire.proofs.ByteLaws.{bytes_part, to_le_from_le, same_refl, from_le_padded}
use Rattle.wire.proofs.ByteLoops.{not_same}
use Rattle.store.specs.Layout.{state_at, key_length_at, field_length_at, empty_state, expiring_state, expiry_at, expiry_size, key_at, key_most, field_at, field_most}
use Rattle.store.specs.Store.{Slot, decode_expiry, decode_entry, decode_slot, slot_well, holds}
use Rattle.store.specs.Promises.{SlotBytes, HeldBytes, fingerprint_of}
use Rattle.store.proofs.Pieces.{length_part}
use Rattle.store.proofs.WellSlot.{HeldTests, held_well_lem, place_padded}
use Rattle.store.specs.Time.{before, live, live_slot, dead_slot, empty_slot, of_key, live_of_key}

-- n bytes from a place on, as a part up to its end
pub part_of : (a n : ℕ) (s : List ℕ) → take (a + n - a) (drop a s) ≡ part a n s
unfolding part
part_of a n s = let e : a + n - a ≡ n = omega arith in rw e

-- ---- by the state

pub state_empty : (t : List ℕ) → get_or t state_at 0 ≡ empty_state → decode_slot t ≡ None
unfolding decode_slot
state_empty t h = rw (eq-eqb (get_or t state_at 0) empty_state h)

pub state_held : (t : List ℕ) → (get_or t state_at 0 ≡ empty_state → ⊥) → decode_slot t ≡ Some (decode_entry t)
unfolding decode_slot
state_held t h = rw (ne_eqb (get_or t state_at 0) empty_state h)

pub state_expiring : (t : List ℕ) → get_or t state_at 0 ≡ expiring_state → decode_expiry t ≡ Some (from_le (part expiry_at expiry_size t))
unfolding decode_expiry
state_expiring t h = rw (eq-eqb (get_or t state_at 0) expiring_state h)

pub state_lasting : (t : List ℕ) → (get_or t state_at 0 ≡ expiring_state → ⊥) → decode_expiry t ≡ None
unfolding decode_expiry
state_lasting t h = rw (ne_eqb (get_or t state_at 0) expiring_state h)

-- ---- tests of a slot, by what it holds

pub empty_state_lem : (t : List ℕ) → empty_slot (decode_slot t) ≡ eqb (get_or t state_at 0) empty_state
unfolding empty_slot decode_slot or_else
empty_state_lem t = go (eqb (get_or t state_at 0) empty_state)
  where
    go : (x : Bool) → or_else (cond x None (Some (decode_entry t))) true (λ e. false) ≡ x
    go true = refl
    go false = refl

pub live_held : (t : List ℕ) (time : ℕ) → (get_or t state_at 0 ≡ empty_state → ⊥) → live_slot time (decode_slot t) ≡ before time (decode_expiry t)
unfolding live_slot live or_else decode_entry
live_held t time h = rw (state_held t h)

pub holds_held : (t k f : List ℕ) → (get_or t state_at 0 ≡ empty_state → ⊥)
    → holds k f (decode_slot t) ≡ same (decode_entry t).key k && same (decode_entry t).field f
unfolding holds or_else
holds_held t k f h = rw (state_held t h)

pub key_held : (t k : List ℕ) → (get_or t state_at 0 ≡ empty_state → ⊥) → of_key k (decode_slot t) ≡ same (decode_entry t).key k
unfolding of_key or_else
key_held t k h = rw (state_held t h)

pub dead_held : (t : List ℕ) (time : ℕ) → (get_or t state_at 0 ≡ empty_state → ⊥) → dead_slot time (decode_slot t) ≡ not (live_slot time (decode_slot t))
unfolding dead_slot live_slot or_else
dead_held t time h = rw (state_held t h)

-- a live entry of a key is live, and of the key
pub live_of_key_lem : (time : ℕ) (k : List ℕ) (s : Slot) → live_of_key time k s ≡ live_slot time s && of_key k s
unfolding live_of_key live_slot of_key or_else
live_of_key_lem time k None = refl
live_of_key_lem time k (Some e) = turned (same e.key k) (live time e)
  where
    turned : (a b : Bool) → a && b ≡ b && a
    turned true true = refl
    turned true false = refl
    turned false true = refl
    turned false false = refl

-- ---- a held slot's lengths lie in its places

module _ (t : List ℕ) (h : HeldBytes t) where
  pub tests : HeldTests t
  unfolding slot_well
  tests = held_well_lem t (rw (ne_eqb (get_or t state_at 0) empty_state h.held) at h.slot.well)

  pub key_inside : 16 + get_or t 1 0 ≤ length t
  key_inside = omega (arith, tests.key, h.slot.size)

  pub field_inside : 32 + get_or t 2 0 ≤ length t
  field_inside = omega (arith, tests.field, h.slot.size)

  pub value_inside : 64 + get_or t 3 0 ≤ length t
  value_inside = omega (arith, tests.value, h.slot.size)

  -- a held slot's place for the field is the field, padded
  pub field_padded : padded field_most (decode_entry t).field ≡ part field_at field_most t
  unfolding decode_entry
  field_padded = place_padded field_at field_most (get_or t field_length_at 0) t (omega (arith, h.slot.size)) tests.field tests.field_beyond

  pub key_padded : padded key_most (decode_entry t).key ≡ part key_at key_most t
  unfolding decode_entry
  key_padded = place_padded key_at key_most (get_or t key_length_at 0) t (omega (arith, h.slot.size)) tests.key tests.key_beyond

-- ---- a key by its two words and its length

-- a held slot's key is bytes
pub key_are_bytes : (t : List ℕ) → HeldBytes t → Bytes (decode_entry t).key
unfolding decode_entry
key_are_bytes t h = bytes_part key_at (get_or t key_length_at 0) t h.slot.bytes

-- parts of lists as long as each other
length_parts : (at : ℕ) (x y : List ℕ) → length x ≡ length y → length (part at 8 x) ≡ length (part at 8 y)
unfolding part
length_parts at x y e = rw (length-take, length-drop, length-take, length-drop, e)

-- bytes that spell the same number are the same
spelled : (x y : List ℕ) → Bytes x → Bytes y → length x ≡ length y → from_le x ≡ from_le y → x ≡ y
spelled x y p q e f = sym (to_le_from_le x p) ∙ rw (e, f) (to_le_from_le y q)

two_words : (s : List ℕ) → length s ≤ 16 → part 0 8 s ++ part 8 8 s ≡ s
unfolding part
two_words s l =
    let short : length (drop 8 s) ≤ 8 = rw length-drop (omega arith) in
    rw (take_all 8 (drop 8 s) short) (take-append-drop 8 s)

by_words : (x y : List ℕ) → Bytes x → Bytes y → length x ≡ length y → length x ≤ 16 → from_le (part 0 8 x) ≡ from_le (part 0 8 y)
    → from_le (part 8 8 x) ≡ from_le (part 8 8 y) → x ≡ y
by_words x y p q e l f g =
    let low : part 0 8 x ≡ part 0 8 y = spelled (part 0 8 x) (part 0 8 y) (bytes_part 0 8 x p) (bytes_part 0 8 y q) (same_part 0) f in
    let high : part 8 8 x ≡ part 8 8 y = spelled (part 8 8 x) (part 8 8 y) (bytes_part 8 8 x p) (bytes_part 8 8 y q) (same_part 8) g in
    sym (two_words x l) ∙ rw (low, high) (two_words y (omega arith))
  where
    same_part : (at : ℕ) → length (part at 8 x) ≡ length (part at 8 y)
    same_part at = length_parts at x y e

module _ (t k : List ℕ) (h : HeldBytes t) where
  -- a word of the key's place is the key's
  key_word : (at : ℕ) → from_le (part at 8 (part key_at key_most t)) ≡ from_le (part at 8 (decode_entry t).key)
  key_word at = rw (← key_padded t h) (from_le_padded at 8 key_most (decode_entry t).key)

  pub key_length : length (decode_entry t).key ≡ get_or t key_length_at 0
  unfolding decode_entry
  key_length = length_part key_at (get_or t key_length_at 0) t (key_inside t h)

  -- a key of another length or with another word is another
  pub other_length : (get_or t key_length_at 0 ≡ length k → ⊥) → of_key k (decode_slot t) ≡ false
  other_length n = key_held t k h.held ∙ not_same (decode_entry t).key k (λ e. n (sym key_length ∙ ap length e))

  pub other_word : (at x y : ℕ) → x ≡ from_le (part at 8 (part key_at key_most t)) → y ≡ from_le (part at 8 k) → (x ≡ y → ⊥) → of_key k (decode_slot t) ≡ false
  other_word at x y p q n = key_held t k h.held ∙ not_same (decode_entry t).key k (λ e. n (p ∙ key_word at ∙ ap (λ (s : List ℕ). from_le (part at 8 s)) e ∙ sym q))

  pub last_word : (x y low high : ℕ) → Bytes k → get_or t key_length_at 0 ≡ length k → x ≡ from_le (part 0 8 (part key_at key_most t)) → low ≡ from_le (part 0 8 k) → x ≡ low
      → y ≡ from_le (part 8 8 (part key_at key_most t)) → high ≡ from_le (part 8 8 k) → eqb y high ≡ of_key k (decode_slot t)
  last_word x y low high b e p q r u v = go (eqb y high) refl
    where
      bytes : Bytes (decode_entry t).key
      bytes = key_are_bytes t h

      go : (z : Bool) → eqb y high ≡ z → z ≡ of_key k (decode_slot t)
      go true d =
          let same_key : (decode_entry t).key ≡ k
          = by_words (decode_entry t).key k bytes b (key_length ∙ e) (omega (arith, key_length, (tests t h).key)) (sym (key_word 0) ∙ sym p ∙ r ∙ q)
          (sym (key_word 8) ∙ sym u ∙ eqb-true y high d ∙ v) in
          rw (key_held t k h.held, same_key) (sym (same_refl k))
      go false d = sym (other_word 8 y high u v (eqb-false y high d))

-- ---- fingerprints

-- a word past the end, and one that ends before its 8 bytes
module _ (at : ℕ) (s : List ℕ) where
  pub word_past : length s ≤ at → 0 ≡ from_le (part at 8 s)
  unfolding part from_le
  word_past l = rw (drop_of_length-le s l)

  pub word_short : length s - at < 8 → take (length s - at) (drop at s) ≡ part at 8 s
  unfolding part
  word_short l =
      let e : length (drop at s) ≡ length s - at = length-drop at s in
      take_all (length s - at) (drop at s) (omega arith) ∙ sym (take_all 8 (drop at s) (omega arith))

-- the two words of a fingerprint
pub fingerprint_words : (s : List ℕ) (x y : ℕ) → x ≡ from_le (part 0 8 s) → y ≡ from_le (part 8 8 s) → bit_xor x y ≡ fingerprint_of s
unfolding fingerprint_of
fingerprint_words s x y p q = rw (p, q)

-- padding changes no fingerprint
fingerprint_padded : (n : ℕ) (f : List ℕ) → fingerprint_of (padded n f) ≡ fingerprint_of f
unfolding fingerprint_of
fingerprint_padded n f = rw (from_le_padded 0 8 n f, from_le_padded 8 8 n f)

-- a slot that has another fingerprint holds another field
pub other_fingerprint : (t k f : List ℕ) → SlotBytes t → (fingerprint_of (part field_at field_most t) ≡ fingerprint_of f → ⊥) → holds k f (decode_slot t) ≡ false
unfolding holds or_else
other_fingerprint t k f w n = go (eqb (get_or t state_at 0) empty_state) refl
  where
    other : HeldBytes t → (decode_entry t).field ≡ f → ⊥
    other h e = n (rw (← field_padded t h, e) (fingerprint_padded field_most f))

    go : (x : Bool) → eqb (get_or t state_at 0) empty_state ≡ x → holds k f (decode_slot t) ≡ false
    go true e = rw (state_empty t (eqb-true (get_or t state_at 0) empty_state e))
    go false e =
        let u : get_or t state_at 0 ≡ empty_state → ⊥ = eqb-false (get_or t state_at 0) empty_state e in
        rw (holds_held t k f u, not_same (decode_entry t).field f (other (record { slot = w; held = u }))) (and-false (same (decode_entry t).key k))

-- ---- a field of at most one word

short_print : (f : List ℕ) → length f ≤ 8 → fingerprint_of f ≡ from_le f
unfolding fingerprint_of part from_le
short_print f l = rw (take_all 8 f l, drop_of_length-le f l, xor_zero_r (from_le f))

module _ (t k f : List ℕ) (w : SlotBytes t) where
  pub field_length : HeldBytes t → length (decode_entry t).field ≡ get_or t field_length_at 0
  unfolding decode_entry
  field_length h = length_part field_at (get_or t field_length_at 0) t (field_inside t h)

  pub field_are_bytes : Bytes (decode_entry t).field
  unfolding decode_entry
  field_are_bytes = bytes_part field_at (get_or t field_length_at 0) t w.bytes

  -- a field of another length is another
  pub other_size : (get_or t field_length_at 0 ≡ length f → ⊥) → holds k f (decode_slot t) ≡ false
  unfolding holds or_else
  other_size n = go (eqb (get_or t state_at 0) empty_state) refl
    where
      go : (x : Bool) → eqb (get_or t state_at 0) empty_state ≡ x → holds k f (decode_slot t) ≡ false
      go true e = rw (state_empty t (eqb-true (get_or t state_at 0) empty_state e))
      go false e =
          let u : get_or t state_at 0 ≡ empty_state → ⊥ = eqb-false (get_or t state_at 0) empty_state e in
          let h : HeldBytes t = record { slot = w; held = u } in
          rw (holds_held t k f u, not_same (decode_entry t).field f (λ d. n (sym (field_length h) ∙ ap length d))) (and-false (same (decode_entry t).key k))

  -- one of the same length and fingerprint is the same, so that the key decides
  pub short_holds : Bytes f → length f ≤ 8 → get_or t field_length_at 0 ≡ length f → fingerprint_of (part field_at field_most t) ≡ fingerprint_of f
      → holds k f (decode_slot t) ≡ of_key k (decode_slot t)
  unfolding holds of_key or_else
  short_holds b l e q = go (eqb (get_or t state_at 0) empty_state) refl
    where
      field_is : HeldBytes t → (decode_entry t).field ≡ f
      field_is h =
          let n : length (decode_entry t).field ≡ length f = field_length h ∙ e in
          let p : fingerprint_of (decode_entry t).field ≡ fingerprint_of f = sym (fingerprint_padded field_most (decode_entry t).field) ∙ ap fingerprint_of (field_padded t h) ∙ q in
          spelled (decode_entry t).field f field_are_bytes b n (sym (short_print (decode_entry t).field (omega arith)) ∙ p ∙ short_print f l)

      go : (x : Bool) → eqb (get_or t state_at 0) empty_state ≡ x → holds k f (decode_slot t) ≡ of_key k (decode_slot t)
      go true d = rw (state_empty t (eqb-true (get_or t state_at 0) empty_state d))
      go false d =
          let u : get_or t state_at 0 ≡ empty_state → ⊥ = eqb-false (get_or t state_at 0) empty_state d in
          rw (holds_held t k f u, key_held t k u, field_is (record { slot = w; held = u }), same_refl f) (and-true (same (decode_entry t).key k))
