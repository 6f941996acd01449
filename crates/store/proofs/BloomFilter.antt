-- Laws of the Bloom filter of names: a name that was inserted has its bits, so that a slot whose name lacks one clashes with no slot seen before.
use Rattle.std.specs.Prelude.{None, Some}
use mathlib.Core.Path.{◌≡◌, refl, sym, ap, ap₂, subst, ◌∙◌}
use mathlib.Core.Bool.{Bool, true, false, cond, not, and-true, and-false}
use mathlib.Core.List.{List, [], ◌∷◌}
use Rattle.std.proofs.lemmas.Option.{none-some}
use Prim.Native.Nat.{ℕ, zero, suc, ◌+◌, ◌-◌, ◌*◌, ◌/◌, ◌%◌, ◌^◌, ◌≤◌, ◌<◌, max}
use native.Mathlib.Nat.{one-mul}
use native.Mathlib.Omega.{arith}
use lib.Arith.{bin_ind, digits_mod}
use lib.Bits.{bit_or, bit_and, and_le_r, or_step, or_comm, or_self, or_shr}
use lib.Dec.{eqb, lit<}
use lib.ListN.{length, drop, get_or, set, length-set, length-drop, drop_of_length-le}
use lib.Pow.{shl_exact}
use lib.Seq.{drop-cons, get_or-drop, get_or-set_same}
use borrow.Author.Tests.{eq-eqb, ne_eqb, eqb-true, eqb-false}
use Rattle.wire.specs.Lists.{all, any, or_else}
use Rattle.wire.specs.Bytes.{Bytes, padded}
use Rattle.wire.proofs.Lists.{any_none, and_right, both_ways}
use Rattle.store.specs.Layout.{header_size, slot_size, state_at, empty_state, key_most, field_most}
use Rattle.store.specs.Store.{Entry, Slot, decode_entry, decode_slot, encode_entry, encode_slot, slots_in, slot_well, holds, clash, distinct}
use Rattle.store.specs.Time.{empty_slot}
use Rattle.store.specs.Promises.{SlotBytes, HeldBytes, slot_at, slots_of, SlotsWell, slots_good, key_sum, field_sum, spread_of, name_hash, FilterSize, word_of, bits_of, may_contain, with_name, with_slot_name, Covered, Turn, Turned}
use Rattle.store.specs.Valid.{Fits, FitsSlot}
use Rattle.store.proofs.Slots.{Named, holds_named, none_clash, clash_none}
use Rattle.store.proofs.SlotBytes.{key_bytes, field_bytes}
use Rattle.store.proofs.WellSlot.{encode_decode_slot, decode_fits_slot}
use Rattle.store.proofs.SlotParts.{state_empty, state_held, empty_state_lem}
use Rattle.store.proofs.StoreChecks.{slots_of_at, length_slots_of, slot_bytes_lem, all_well, one_wrong}

-- ---- names

module _ (t : List ℕ) (w : SlotBytes t) (e : Entry) (h : decode_slot t ≡ Some e) where
  -- its entry fits, and its bytes are the entry's
  entry_fits : Fits e
  entry_fits = subst FitsSlot h (decode_fits_slot t w.size w.bytes w.well)

  entry_back : encode_entry e ≡ t
  unfolding encode_slot
  entry_back = ap encode_slot (sym h) ∙ encode_decode_slot t w.size w.bytes w.well

  -- a slot's name is that of its entry's key and field
  name_entry : name_hash t ≡ spread_of (key_sum (padded key_most e.key)) (field_sum (padded field_most e.field))
  unfolding name_hash
  name_entry = rw (← entry_back, key_bytes e entry_fits, field_bytes e entry_fits)

-- slots that clash have the same name
pub clash_name : (t u : List ℕ) → SlotBytes t → SlotBytes u → (d e : Entry) → decode_slot t ≡ Some d → decode_slot u ≡ Some e → clash (Some d) (Some e) ≡ true
    → name_hash t ≡ name_hash u
unfolding clash or_else
clash_name t u v w d e p q h =
    let n : Named d.key d.field e = holds_named d.key d.field e h in
    rw (name_entry t v d p, name_entry u w e q, n.key, n.field)

-- ---- bits

-- the lowest bit of two numbers' bits together
or_low : (a b : ℕ) → bit_or a b % 2 ≡ max (a % 2) (b % 2)
or_low a b = ap (λ (x : ℕ). x % 2) (or_step a b) ∙ digits_mod (bit_or (a / 2) (b / 2)) (omega arith)

max_join : (a b c : ℕ) → max (max a b) c ≡ max a (max b c)
max_join a b c = omega arith

-- bits together, in any order
or_join : (a b c : ℕ) → bit_or (bit_or a b) c ≡ bit_or a (bit_or b c)
or_join a = bin_ind (λ (n : ℕ). (b c : ℕ) → bit_or (bit_or n b) c ≡ bit_or n (bit_or b c)) (λ b c. refl) next a
  where
    next : (n : ℕ) → ((b c : ℕ) → bit_or (bit_or (n / 2) b) c ≡ bit_or (n / 2) (bit_or b c)) → (b c : ℕ) → bit_or (bit_or n b) c ≡ bit_or n (bit_or b c)
    next n h b c =
        let high : bit_or (bit_or n b / 2) (c / 2) ≡ bit_or (n / 2) (bit_or b c / 2)
        = ap (λ (x : ℕ). bit_or x (c / 2)) (or_shr n b 1) ∙ h (b / 2) (c / 2) ∙ ap (bit_or (n / 2)) (sym (or_shr b c 1)) in
        let low : max (bit_or n b % 2) (c % 2) ≡ max (n % 2) (bit_or b c % 2)
        = ap (λ (x : ℕ). max x (c % 2)) (or_low n b) ∙ max_join (n % 2) (b % 2) (c % 2) ∙ ap (max (n % 2)) (sym (or_low b c)) in
        or_step (bit_or n b) c ∙ ap₂ (λ (x y : ℕ). x * 2 + y) high low ∙ sym (or_step n (bit_or b c))

-- bits that are set stay when others are set
or_keeps : (a x y : ℕ) → bit_or a x ≡ a → bit_or (bit_or a y) x ≡ bit_or a y
or_keeps a x y h = or_join a y x ∙ ap (bit_or a) (or_comm y x) ∙ sym (or_join a x y) ∙ ap (λ (z : ℕ). bit_or z y) h

set_keeps : (m : List ℕ) (i j x y : ℕ) → bit_or (get_or m j 0) x ≡ get_or m j 0
    → bit_or (get_or (set m i (bit_or (get_or m i 0) y)) j 0) x ≡ get_or (set m i (bit_or (get_or m i 0) y)) j 0
set_keeps [] i j x y h = h
set_keeps (a ∷ m) zero zero x y h = or_keeps a x y h
set_keeps (a ∷ m) zero (suc j) x y h = h
set_keeps (a ∷ m) (suc i) zero x y h = h
set_keeps (a ∷ m) (suc i) (suc j) x y h = set_keeps m i j x y h

-- a 1 shifted to a place of a word
bit_word : (a : ℕ) → 1 * 2 ^ (a % 64) % 2 ^ 64 ≡ 2 ^ (a % 64)
bit_word a = shl_exact 1 (a % 64) 64 (lit< tt) (omega arith) ∙ one-mul (2 ^ (a % 64))

-- ---- one name more

module _ (name : ℕ) (m : List ℕ) where
  -- whether a name's bits are set, and the filter with them, by shifted ones
  pub name_told : eqb (bit_or (get_or m (bit_and name (length m - 1)) 0) (bit_or (1 * 2 ^ (name / 1024 % 64) % 2 ^ 64) (1 * 2 ^ (name / 65536 % 64) % 2 ^ 64))) (get_or m (bit_and name (length m - 1)) 0) ≡ may_contain name m
  unfolding may_contain word_of bits_of
  name_told = rw (bit_word (name / 1024), bit_word (name / 65536))

  pub name_written : set m (bit_and name (length m - 1)) (bit_or (get_or m (bit_and name (length m - 1)) 0) (bit_or (1 * 2 ^ (name / 1024 % 64) % 2 ^ 64) (1 * 2 ^ (name / 65536 % 64) % 2 ^ 64))) ≡ with_name name m
  unfolding with_name word_of bits_of
  name_written = rw (bit_word (name / 1024), bit_word (name / 65536))

  -- the words are as many
  length_insert : length (with_name name m) ≡ length m
  unfolding with_name
  length_insert = rw length-set

  word_same : (other : ℕ) → word_of other (with_name name m) ≡ word_of other m
  unfolding word_of
  word_same other = rw length_insert

  -- bits that are set stay
  bits_keep : (other : ℕ) → bit_or (get_or m (word_of other m) 0) (bits_of other) ≡ get_or m (word_of other m) 0
      → bit_or (get_or (with_name name m) (word_of other m) 0) (bits_of other) ≡ get_or (with_name name m) (word_of other m) 0
  unfolding with_name
  bits_keep other e = set_keeps m (word_of name m) (word_of other m) (bits_of other) (bits_of name) e

  insert_keeps : (other : ℕ) → may_contain other m ≡ true → may_contain other (with_name name m) ≡ true
  unfolding may_contain
  insert_keeps other h = rw (word_same other) (eq-eqb _ _ (bits_keep other (eqb-true _ _ h)))

  module _ (size : FilterSize m) where
    -- the word's number lies in the filter
    pub place_inside : bit_and name (length m - 1) < length m
    place_inside = omega (arith, and_le_r name (length m - 1), size.least)

    pub place_scaled : bit_and name (length m - 1) * 8 < 2 ^ 64
    place_scaled = omega (arith, place_inside, size.most)

    -- the name has its own bits
    own_bits : bit_or (get_or (with_name name m) (word_of name m) 0) (bits_of name) ≡ get_or (with_name name m) (word_of name m) 0
    unfolding with_name word_of
    own_bits =
        rw (get_or-set_same m (bit_and name (length m - 1)) (bit_or (get_or m (bit_and name (length m - 1)) 0) (bits_of name)) 0 place_inside)
        (or_join (get_or m (bit_and name (length m - 1)) 0) (bits_of name) (bits_of name) ∙ ap (bit_or (get_or m (bit_and name (length m - 1)) 0)) (or_self (bits_of name)))

    insert_has : may_contain name (with_name name m) ≡ true
    unfolding may_contain
    insert_has = rw (word_same name) (eq-eqb _ _ own_bits)

    length_kept : FilterSize (with_name name m)
    length_kept = record { least = rw length_insert size.least; most = rw length_insert size.most }

module _ (t m : List ℕ) where
  -- a slot that holds no entry has no name
  pub insert_empty : get_or t state_at 0 ≡ empty_state → m ≡ with_slot_name t m
  unfolding with_slot_name
  insert_empty h = rw (eq-eqb (get_or t state_at 0) empty_state h)

  -- another has that of its name
  pub insert_held : (get_or t state_at 0 ≡ empty_state → ⊥) → with_name (name_hash t) m ≡ with_slot_name t m
  unfolding with_slot_name
  insert_held h = rw (ne_eqb (get_or t state_at 0) empty_state h)

  -- what holds of the filter as it was and with a name more
  insert_either : (P : List ℕ → Type 0) → P m → P (with_name (name_hash t) m) → P (with_slot_name t m)
  unfolding with_slot_name
  insert_either P p q = go (eqb (get_or t state_at 0) empty_state)
    where
      go : (x : Bool) → P (cond x m (with_name (name_hash t) m))
      go true = p
      go false = q

-- ---- a turn

module _ (count : ℕ) (b : List ℕ) (i : ℕ) (m : List ℕ) (c : Turn count b i m) where
  -- a later slot of another name does not clash
  apart_go : (j : ℕ) → i < j → j < count → may_contain (name_hash (slot_at b i)) m ≡ false
      → (s u : Slot) → decode_slot (slot_at b i) ≡ s → decode_slot (slot_at b j) ≡ u → (x : Bool) → clash s u ≡ x → clash s u ≡ false
  apart_go j l n f None u p q x h = none_clash u
  apart_go j l n f (Some d) None p q x h = clash_none (Some d)
  apart_go j l n f (Some d) (Some e) p q false h = h
  apart_go j l n f (Some d) (Some e) p q true h =
      let same_name : name_hash (slot_at b i) ≡ name_hash (slot_at b j)
      = clash_name (slot_at b i) (slot_at b j) (slot_bytes_lem count b i i c.slots (omega arith) c.inside) (slot_bytes_lem count b i j c.slots (omega arith) n) d e p q h in
      let held : get_or (slot_at b j) state_at 0 ≡ empty_state → ⊥ = λ z. none-some e (sym (state_empty (slot_at b j) z) ∙ q) in
      both_ways (rw same_name (c.covered.names j (omega arith) n held)) f

  -- a slot whose name is new clashes with no later one
  pub new_apart : may_contain (name_hash (slot_at b i)) m ≡ false → any (clash (decode_slot (slot_at b i))) (drop (i + 1) (slots_of count b)) ≡ false
  new_apart f = any_none (clash (decode_slot (slot_at b i))) (drop (i + 1) (slots_of count b)) None each
    where
      each : (k : ℕ) → k < length (drop (i + 1) (slots_of count b)) → clash (decode_slot (slot_at b i)) (get_or (drop (i + 1) (slots_of count b)) k None) ≡ false
      each k l =
          let n : i + 1 + k < count = omega (arith, length-drop (i + 1) (slots_of count b), length_slots_of count b) in
          rw (get_or-drop (i + 1) (slots_of count b) k None, slots_of_at count b (i + 1 + k) n)
          (apart_go (i + 1 + k) (omega arith) n f (decode_slot (slot_at b i)) (decode_slot (slot_at b (i + 1 + k))) refl refl _ refl)

  -- an empty slot clashes with none
  pub empty_apart : get_or (slot_at b i) state_at 0 ≡ empty_state → any (clash (decode_slot (slot_at b i))) (drop (i + 1) (slots_of count b)) ≡ false
  empty_apart h = rw (state_empty (slot_at b i) h) (any_none (clash None) (drop (i + 1) (slots_of count b)) None (λ k l. none_clash (get_or (drop (i + 1) (slots_of count b)) k None)))

  -- the filter of the slots from this one on
  pub covered_again : Covered count b i (with_slot_name (slot_at b i) m)
  covered_again = record { size = size; names = names }
    where
      size : FilterSize (with_slot_name (slot_at b i) m)
      size = insert_either (slot_at b i) m (λ (l : List ℕ). FilterSize l) c.covered.size (length_kept (name_hash (slot_at b i)) m c.covered.size)

      keeps : (name : ℕ) → may_contain name m ≡ true → may_contain name (with_slot_name (slot_at b i) m) ≡ true
      keeps name h = insert_either (slot_at b i) m (λ (l : List ℕ). may_contain name l ≡ true) h (insert_keeps (name_hash (slot_at b i)) m name h)

      own : (get_or (slot_at b i) state_at 0 ≡ empty_state → ⊥) → may_contain (name_hash (slot_at b i)) (with_slot_name (slot_at b i) m) ≡ true
      own h = rw (← insert_held (slot_at b i) m h) (insert_has (name_hash (slot_at b i)) m c.covered.size)

      go : (j : ℕ) → i ≤ j → j < count → (get_or (slot_at b j) state_at 0 ≡ empty_state → ⊥) → (x : Bool) → eqb i j ≡ x
          → may_contain (name_hash (slot_at b j)) (with_slot_name (slot_at b i) m) ≡ true
      go j l n h true q =
          subst (λ (k : ℕ). (get_or (slot_at b k) state_at 0 ≡ empty_state → ⊥) → may_contain (name_hash (slot_at b k)) (with_slot_name (slot_at b i) m) ≡ true) (eqb-true i j q) own h
      go j l n h false q =
          keeps (name_hash (slot_at b j)) (c.covered.names j (omega (arith, eqb-false i j q)) n h)

      names : (j : ℕ) → i ≤ j → j < count → (get_or (slot_at b j) state_at 0 ≡ empty_state → ⊥) → may_contain (name_hash (slot_at b j)) (with_slot_name (slot_at b i) m) ≡ true
      names j l n h = go j l n h (eqb i j) refl

-- a held slot clashes with those that hold its name
pub held_clashes : (t : List ℕ) (ss : List Slot) → (get_or t state_at 0 ≡ empty_state → ⊥)
    → any (holds (decode_entry t).key (decode_entry t).field) ss ≡ any (clash (decode_slot t)) ss
unfolding clash or_else
held_clashes t ss h = rw (state_held t h)

module _ (count : ℕ) (b : List ℕ) (i : ℕ) (m : List ℕ) (c : Turn count b i m) where
  -- an empty slot's turn
  pub turn_empty : empty_slot (decode_slot (slot_at b i)) ≡ true → Turned count b i m m false
  turn_empty h =
      let z : get_or (slot_at b i) state_at 0 ≡ empty_state = eqb-true (get_or (slot_at b i) state_at 0) empty_state (sym (empty_state_lem (slot_at b i)) ∙ h) in
      record { answer = sym (empty_apart count b i m c z); filter = insert_empty (slot_at b i) m z }

  module _ (h : empty_slot (decode_slot (slot_at b i)) ≡ false) where
    held : get_or (slot_at b i) state_at 0 ≡ empty_state → ⊥
    held = eqb-false (get_or (slot_at b i) state_at 0) empty_state (sym (empty_state_lem (slot_at b i)) ∙ h)

    -- a held slot's bytes
    pub held_bytes : HeldBytes (slot_at b i)
    held_bytes = record { slot = slot_bytes_lem count b i i c.slots (omega arith) c.inside; held = held }

    module _ {n : List ℕ} (e : n ≡ with_name (name_hash (slot_at b i)) m) where
      -- the turn of a slot whose name is new, and of one whose name may have been
      pub turn_new : may_contain (name_hash (slot_at b i)) m ≡ false → Turned count b i m n false
      turn_new f = record { answer = sym (new_apart count b i m c f); filter = e ∙ insert_held (slot_at b i) m held }

      pub turn_contained : {r : Bool} → r ≡ any (holds (decode_entry (slot_at b i)).key (decode_entry (slot_at b i)).field) (drop (i + 1) (slots_of count b)) → Turned count b i m n r
      turn_contained a =
          record {
            answer = a ∙ held_clashes (slot_at b i) (drop (i + 1) (slots_of count b)) held;
            filter = e ∙ insert_held (slot_at b i) m held;
          }

-- ---- all turns, from the last slot to the first

-- of distinct slots the later ones are
distinct_drop : (ss : List Slot) (i : ℕ) → distinct ss ≡ true → distinct (drop i ss) ≡ true
unfolding distinct
distinct_drop ss zero h = h
distinct_drop [] (suc i) h = h
distinct_drop (s ∷ ss) (suc i) h = distinct_drop ss i (and_right (not (any (clash s) ss)) (distinct ss) h)

-- The slots from i on are well formed and distinct, and their names are in the filter.
pub record Sifting (count : ℕ) (b : List ℕ) (i : ℕ) (m : List ℕ) : Type 0 where
  pub inside : i ≤ count
  pub slots : SlotsWell count b i
  pub apart : distinct (drop i (slots_of count b)) ≡ true
  pub covered : Covered count b i m

module _ (count : ℕ) (b : List ℕ) where
  pub sift_begins : (m : List ℕ) → FilterSize m → header_size + slot_size * count ≤ length b → Bytes b → Sifting count b count m
  unfolding distinct
  sift_begins m e h y =
      let n : length (slots_of count b) ≤ count = omega (arith, length_slots_of count b) in
      record {
        inside = omega arith;
        slots = record { size = h; bytes = y; well = λ j l n. absurd (omega arith) };
        apart = rw (drop_of_length-le (slots_of count b) n);
        covered = record { size = e; names = λ j l n h. absurd (omega arith) };
      }

  module _ (i : ℕ) (m : List ℕ) (f : Sifting count b i m) (l : 0 < i) where
    -- a slot that is not well formed
    pub sift_wrong : slot_well (slot_at b (i - 1)) ≡ false → slots_good count b ≡ false
    unfolding slots_good
    sift_wrong h = rw (one_wrong count b (i - 1) (omega (arith, f.inside)) h)

    module _ (h : slot_well (slot_at b (i - 1)) ≡ true) where
      next_well : SlotsWell count b (i - 1)
      next_well = record { size = f.slots.size; bytes = f.slots.bytes; well = well }
        where
          well : (j : ℕ) → i - 1 ≤ j → j < count → slot_well (slot_at b j) ≡ true
          well j k n = go (eqb (i - 1) j) refl
            where
              go : (x : Bool) → eqb (i - 1) j ≡ x → slot_well (slot_at b j) ≡ true
              go true q = subst (λ (v : ℕ). slot_well (slot_at b v) ≡ true) (eqb-true (i - 1) j q) h
              go false q = f.slots.well j (omega (arith, eqb-false (i - 1) j q)) n

      pub sift_turn : Turn count b (i - 1) m
      sift_turn =
          let e : i - 1 + 1 ≡ i = omega arith in
          record { slots = next_well; inside = omega (arith, f.inside); covered = rw e f.covered }

      -- the slots from the turn's on are distinct if its slot clashes with none after it
      sift_next : distinct (drop (i - 1) (slots_of count b)) ≡ not (any (clash (decode_slot (slot_at b (i - 1)))) (drop (i - 1 + 1) (slots_of count b)))
      unfolding distinct
      sift_next =
          let s : suc (i - 1) ≡ i = omega arith in
          let e : i - 1 + 1 ≡ i = omega arith in
          let n : i - 1 < count = omega (arith, f.inside) in
          let k : i - 1 < length (slots_of count b) = omega (arith, length_slots_of count b) in
          let d : drop (i - 1) (slots_of count b) ≡ decode_slot (slot_at b (i - 1)) ∷ drop i (slots_of count b)
          = drop-cons (slots_of count b) (i - 1) None k ∙ rw (slots_of_at count b (i - 1) n, s) in
          rw (d, f.apart, e) (and-true (not (any (clash (decode_slot (slot_at b (i - 1)))) (drop i (slots_of count b)))))

      module _ (n : List ℕ) (r : Bool) (t : Turned count b (i - 1) m n r) where
        pub sift_fails : r ≡ true → slots_good count b ≡ false
        unfolding slots_good
        sift_fails h = rw (go (distinct (slots_of count b)) refl) (and-false (all slot_well (slots_in count (drop header_size b))))
          where
            clashing : distinct (drop (i - 1) (slots_of count b)) ≡ false
            clashing = rw (sift_next, ← t.answer, h)

            go : (x : Bool) → distinct (slots_of count b) ≡ x → x ≡ false
            go true q = both_ways (distinct_drop (slots_of count b) (i - 1) q) clashing
            go false q = refl

        pub sift_goes_on : r ≡ false → Sifting count b (i - 1) n
        sift_goes_on h =
            record {
              inside = omega (arith, f.inside);
              slots = next_well;
              apart = rw (sift_next, ← t.answer, h);
              covered = rw t.filter (covered_again count b (i - 1) m sift_turn);
            }

  pub sift_ends : (i : ℕ) (m : List ℕ) → Sifting count b i m → i ≤ 0 → slots_good count b ≡ true
  unfolding slots_good
  sift_ends i m f h =
      let z : i ≡ 0 = omega arith in
      rw (all_well count b (λ j n. f.slots.well j (omega arith) n), rw z at f.apart)
