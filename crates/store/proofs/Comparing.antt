-- The bytes of a slot compared with a key and a field by words, and the search that counts them.
use Rattle.std.specs.Prelude.{Option, None, Some}
use mathlib.Core.Path.{◌≡◌, refl, sym, ap, ◌∙◌}
use mathlib.Core.Bool.{Bool, true, false, false≢true, cond, not, ◌&&◌, ◌||◌}
use mathlib.Core.List.{List, ◌++◌}
use Prim.Native.Nat.{ℕ, suc, ◌+◌, ◌-◌, ◌*◌, ◌/◌, ◌%◌, ◌≤◌, ◌<◌}
use native.Mathlib.Numerals.{add-one}
use native.Mathlib.Omega.{arith}
use lib.Bits.{bit_xor}
use lib.Dec.{ltb, eqb}
use lib.ListN.{length, take, drop, get_or, length-append, drop_of_length-le}
use lib.Seq.{take-add, take_all, take-length, length-take-le, get_or-take, drop-cons, drop-drop}
use borrow.Author.Tests.{eq-eqb, ne_eqb, eqb-true, eqb-false}
use Rattle.wire.specs.Lists.{or_else}
use Rattle.wire.specs.Bytes.{Bytes, part, padded, same, from_le, to_le}
use Rattle.store.specs.Layout.{header_size, slot_size, slots_most, state_at, key_length_at, field_length_at, empty_state, key_at, key_most, field_most}
use Rattle.store.specs.Store.{Slot, decode_entry, decode_slot, decode, well_formed, holds}
use Rattle.store.specs.Search.{skipped, run_compared, slot_compared, compared}
use Rattle.store.specs.Promises.{SlotBytes, HeldBytes, slot_at, name_words, run_start, fingerprint_of, lowest_from, searched, searched_within}
use Rattle.store.proofs.Pieces.{length_part}
use Rattle.wire.proofs.Lists.{both_ways, impossible}
use Rattle.wire.proofs.ByteLaws.{bytes_append, bytes_padded, bytes_part, length_to_le, same_refl, same_true, to_le_from_le}
use Rattle.store.proofs.ReadAt.{part_part}
use Rattle.store.proofs.Encode.{decode_valid}
use Rattle.store.proofs.Finding.{lowest_begin, lowest_end, lowest_hit, lowest_skip, Walk, within, walk_inside, walk_bytes, walk_means, Seek}
use Rattle.store.proofs.Runs.{placed, compared_same, compared_most, same_word, length_placed, word_placed, same_names, run_compared_lem}
use Rattle.store.proofs.SlotParts.{state_empty, state_held, holds_held, tests, key_padded, field_padded, key_are_bytes, key_length, field_length, field_are_bytes}

-- ---- two words, byte by byte

-- after n bytes of two words the bytes left do the same
pub record Words (x y a b n : ℕ) : Type 0 where
  pub most : n ≤ 8
  pub rest : n + run_compared (to_le (8 - n) a) (to_le (8 - n) b) ≡ run_compared (to_le 8 x) (to_le 8 y)

pub words_begin : (x y : ℕ) → Words x y x y 0
words_begin x y = record { most = omega arith; rest = omega arith }

module _ {x y a b n : ℕ} (s : Words x y a b n) where
  -- the next byte differs
  pub words_differ : n < 8 → (a % 256 ≡ b % 256 → ⊥) → n + 1 ≡ run_compared (to_le 8 x) (to_le 8 y)
  unfolding run_compared to_le
  words_differ l d =
      let e : 8 - n ≡ suc (7 - n) = omega arith in
      rw (ne_eqb (a % 256) (b % 256) d) at (rw e at s.rest)

  -- it is the same
  pub words_go_on : n < 8 → a % 256 ≡ b % 256 → Words x y (a / 256) (b / 256) (n + 1)
  unfolding run_compared to_le
  words_go_on l d =
      let e : 8 - n ≡ suc (8 - (n + 1)) = omega arith in
      let r = rw (eq-eqb (a % 256) (b % 256) d) at (rw e at s.rest) in
      record { most = omega arith; rest = omega (arith, r) }

  pub words_end : 8 ≤ n → 8 ≡ run_compared (to_le 8 x) (to_le 8 y)
  unfolding run_compared to_le
  words_end l =
      let e : 8 - n ≡ 0 = omega arith in
      omega (arith, s.most, rw e at s.rest)

pub word_most : {r : ℕ} (x y : ℕ) → r ≡ run_compared (to_le 8 x) (to_le 8 y) → r ≤ 8
word_most x y e = omega (arith, e, compared_most (to_le 8 x) (to_le 8 y), length_to_le 8 y)

-- what stands before a word
pub start_most : {r w size : ℕ} → w < 6 → size ≤ key_most → r ≡ run_start w size → r ≤ 48
unfolding run_start
start_most {r} {w} {size} l m e = go (ltb w 2) e
  where
    go : (b : Bool) → r ≡ cond b (8 * w) (size + 8 * (w - 2)) → r ≤ 48
    go true h = omega arith
    go false h = omega arith

-- ---- names

bytes_placed : (k f : List ℕ) → Bytes k → Bytes f → Bytes (placed k f)
bytes_placed k f p q = bytes_append (padded key_most k) (padded field_most f) (bytes_padded key_most k p) (bytes_padded field_most f q)

other_name : (k f k' f' : List ℕ) → (k ≡ k' → f ≡ f' → ⊥) → same k k' && same f f' ≡ false
other_name k f k' f' d = go (same k k') refl (same f f') refl
  where
    go : (x : Bool) → same k k' ≡ x → (y : Bool) → same f f' ≡ y → x && y ≡ false
    go true p true q = absurd (d (same_true k k' p) (same_true f f' q))
    go true p false q = refl
    go false p y q = refl

-- ---- which slots are passed over

skipped_other : (k f : List ℕ) (s : Slot) → skipped k f s ≡ true → holds k f s ≡ false
unfolding skipped holds or_else
skipped_other k f None h = refl
skipped_other k f (Some e) h = other_name e.key e.field k f (λ p q.
    false≢true (rw (p, q, eq-eqb (length k) (length k) refl, eq-eqb (length f) (length f) refl) at h))

not_either : (a b : Bool) → not a || not b ≡ false → (a ≡ true) × (b ≡ true)
not_either true true h = (refl, refl)
not_either true false h = absurd (false≢true (sym h))
not_either false b h = absurd (false≢true (sym h))

module _ (t k f : List ℕ) (h : HeldBytes t) where
  skipped_held : skipped k f (decode_slot t) ≡ not (eqb (get_or t key_length_at 0) (length k)) || not (eqb (get_or t field_length_at 0) (length f))
  unfolding skipped or_else
  skipped_held = rw (state_held t h.held, key_length t k h, field_length t k f h.slot h)

  -- by the key's length, or else by the field's
  pub skipped_key : (get_or t key_length_at 0 ≡ length k → ⊥) → skipped k f (decode_slot t) ≡ true
  skipped_key n = rw (skipped_held, ne_eqb (get_or t key_length_at 0) (length k) n)

  pub skipped_field : get_or t key_length_at 0 ≡ length k → skipped k f (decode_slot t) ≡ not (eqb (get_or t field_length_at 0) (length f))
  skipped_field e = rw (skipped_held, eq-eqb (get_or t key_length_at 0) (length k) e)

-- ---- a slot that is compared

-- it holds a key and a field of the lengths
pub record Comparable (t k f : List ℕ) : Type 0 where
  pub held : HeldBytes t
  pub keys : length (decode_entry t).key ≡ length k
  pub fields : length (decode_entry t).field ≡ length f

not_skipped : (t k f : List ℕ) → SlotBytes t → skipped k f (decode_slot t) ≡ false → Comparable t k f
unfolding skipped or_else
not_skipped t k f w h = go (eqb (get_or t state_at 0) empty_state) refl
  where
    lengths : HeldBytes t → Comparable t k f
    lengths g =
        let both = not_either (eqb (get_or t key_length_at 0) (length k)) (eqb (get_or t field_length_at 0) (length f)) (sym (skipped_held t k f g) ∙ h) in
        record {
          held = g;
          keys = key_length t k g ∙ eqb-true (get_or t key_length_at 0) (length k) both.0;
          fields = field_length t k f w g ∙ eqb-true (get_or t field_length_at 0) (length f) both.1;
        }

    go : (x : Bool) → eqb (get_or t state_at 0) empty_state ≡ x → Comparable t k f
    go true e = both_ways {t = skipped k f None} refl (rw (state_empty t (eqb-true (get_or t state_at 0) empty_state e)) at h)
    go false e = lengths (record { slot = w; held = eqb-false (get_or t state_at 0) empty_state e })

six_words : (ws k f : List ℕ) → ws ≡ name_words k f → length ws ≡ 6
unfolding name_words
six_words ws k f e = rw e

-- up to word w it has the name's bytes
abbrev pub Alike : List ℕ → List ℕ → List ℕ → ℕ → Type 0
Alike t k f w = take (8 * w) (placed (decode_entry t).key (decode_entry t).field) ≡ take (8 * w) (placed k f)

module _ (t k f : List ℕ) (h : Comparable t k f) where
  abbrev K : List ℕ
  K = (decode_entry t).key

  abbrev F : List ℕ
  F = (decode_entry t).field

  key_short : length K ≤ key_most
  key_short = rw (key_length t k h.held) (tests t h.held).key

  field_short : length F ≤ field_most
  field_short = rw (field_length t k f h.held.slot h.held) (tests t h.held).field

  comparable_key : length k ≤ key_most
  comparable_key = rw (← h.keys) key_short

  comparable_field : length f ≤ field_most
  comparable_field = rw (← h.fields) field_short

  -- its places are its key and its field
  slot_placed : part key_at 48 t ≡ placed K F
  unfolding part
  slot_placed = rw (key_padded t h.held, field_padded t h.held, take-add key_most field_most (drop key_at t), drop-drop key_most key_at t)

  slot_word : (w : ℕ) → w < 6 → from_le (part (key_at + 8 * w) 8 t) ≡ from_le (part (8 * w) 8 (placed K F))
  slot_word w l = rw (← slot_placed, part_part key_at 48 (8 * w) 8 t (omega arith))

  -- what it counts is its run
  run_counted : slot_compared k f (decode_slot t) ≡ run_compared (K ++ F) (k ++ f)
  unfolding slot_compared skipped or_else
  run_counted = rw (state_held t h.held.held, eq-eqb (length K) (length k) h.keys, eq-eqb (length F) (length f) h.fields)

  run_most : slot_compared k f (decode_slot t) ≤ 48
  run_most = omega (arith, run_counted, compared_most (K ++ F) (k ++ f), length-append k f, comparable_key, comparable_field)

  -- the words compared, as bytes in their places
  module _ (w x y : ℕ) (ws : List ℕ) (l : w < 6) (a : Alike t k f w) (ke : Bytes k) (fe : Bytes f) (e : ws ≡ name_words k f)
      (p : x ≡ from_le (part (key_at + 8 * w) 8 t)) (q : y ≡ get_or ws w 0) where
    abbrev X : List ℕ
    X = part (8 * w) 8 (placed K F)

    abbrev Y : List ℕ
    Y = part (8 * w) 8 (placed k f)

    spells_x : x ≡ from_le X
    spells_x = p ∙ slot_word w l

    spells_y : y ≡ from_le Y
    spells_y = rw (q, e) (word_placed k f comparable_key comparable_field w l)

    length_x : length X ≡ 8
    length_x = length_part (8 * w) 8 (placed K F) (omega (arith, length_placed K F key_short field_short))

    length_y : length Y ≡ 8
    length_y = length_part (8 * w) 8 (placed k f) (omega (arith, length_placed k f comparable_key comparable_field))

    bytes_x : Bytes X
    bytes_x = bytes_part (8 * w) 8 (placed K F) (bytes_placed K F (key_are_bytes t h.held) (field_are_bytes t k f h.held.slot))

    bytes_y : Bytes Y
    bytes_y = bytes_part (8 * w) 8 (placed k f) (bytes_placed k f ke fe)

    to_le_x : to_le 8 x ≡ X
    to_le_x = rw spells_x (ap (λ (n : ℕ). to_le n (from_le X)) (sym length_x) ∙ to_le_from_le X bytes_x)

    to_le_y : to_le 8 y ≡ Y
    to_le_y = rw spells_y (ap (λ (n : ℕ). to_le n (from_le Y)) (sym length_y) ∙ to_le_from_le Y bytes_y)

    -- the same word
    alike_goes_on : x ≡ y → Alike t k f (w + 1)
    alike_goes_on d =
        let next : 8 * w + 8 ≡ 8 * (w + 1) = omega arith in
        let sizes : length (placed K F) ≡ length (placed k f) = length_placed K F key_short field_short ∙ sym (length_placed k f comparable_key comparable_field) in
        rw next at (same_word (8 * w) (placed K F) (placed k f) sizes (omega (arith, length_placed K F key_short field_short)) a
        (sym to_le_x ∙ ap (λ (n : ℕ). to_le 8 n) d ∙ to_le_y))

    module _ (d : x ≡ y → ⊥) where
      differ : X ≡ Y → ⊥
      differ g = d (spells_x ∙ ap from_le g ∙ sym spells_y)

      -- another word: another name
      alike_fails : holds k f (decode_slot t) ≡ false
      alike_fails = holds_held t k f h.held.held ∙ other_name K F k f (λ i j. differ (rw (i, j)))

      -- the bytes compared are those before the word and those in it
      alike_counts : slot_compared k f (decode_slot t) ≡ run_start w (length k) + run_compared (to_le 8 x) (to_le 8 y)
      alike_counts = rw (to_le_x, to_le_y) (run_counted ∙ run_compared_lem K F k f h.keys h.fields key_short field_short w l a differ)

  -- all words are the same: so is the name, and all its bytes are compared
  module _ (w : ℕ) (l : 6 ≤ w) (a : Alike t k f w) where
    same_name : (K ≡ k) × (F ≡ f)
    same_name =
        let s = length_placed K F key_short field_short in
        let z = length_placed k f comparable_key comparable_field in
        same_names K F k f h.keys h.fields key_short field_short
        (sym (take_all (8 * w) (placed K F) (omega (arith, s))) ∙ a ∙ take_all (8 * w) (placed k f) (omega (arith, z)))

    alike_holds : holds k f (decode_slot t) ≡ true
    alike_holds = rw (holds_held t k f h.held.held, same_name.0, same_name.1, same_refl k, same_refl f)

    alike_counts_all : slot_compared k f (decode_slot t) ≡ length k + length f
    alike_counts_all = rw (run_counted, same_name.0, same_name.1, compared_same (k ++ f), length-append k f)

-- of a slot that is passed over no byte is compared
skipped_counts : (t k f : List ℕ) → skipped k f (decode_slot t) ≡ true → slot_compared k f (decode_slot t) ≡ 0
unfolding slot_compared
skipped_counts t k f h = rw h

-- of no slot more bytes are compared than its places have
slot_most : (t k f : List ℕ) → SlotBytes t → slot_compared k f (decode_slot t) ≤ 48
slot_most t k f w = go (skipped k f (decode_slot t)) refl
  where
    go : (x : Bool) → skipped k f (decode_slot t) ≡ x → slot_compared k f (decode_slot t) ≤ 48
    go true e = omega (arith, skipped_counts t k f e)
    go false e = run_most t k f (not_skipped t k f w e)

-- ---- the search

module _ (k f : List ℕ) (ss : List Slot) (i : ℕ) where
  -- past the last slot nothing is compared
  counted_end : length ss ≤ i → compared k f (drop i ss) ≡ 0
  unfolding compared
  counted_end l = rw (drop_of_length-le ss l)

  -- slot i is the match, or the search goes on
  counted_hit : i < length ss → holds k f (get_or ss i None) ≡ true → compared k f (drop i ss) ≡ slot_compared k f (get_or ss i None)
  unfolding compared
  counted_hit l h = rw (drop-cons ss i None l, h) (omega arith)

  counted_skip : i < length ss → holds k f (get_or ss i None) ≡ false
      → compared k f (drop i ss) ≡ slot_compared k f (get_or ss i None) + compared k f (drop (i + 1) ss)
  unfolding compared
  counted_skip l h = rw (drop-cons ss i None l, h, add-one)

-- among the first n slots, from one on: before slot i nothing was found, and m bytes were compared
pub record Searching (k f b : List ℕ) (n from i m : ℕ) : Type 0 where
  pub well : well_formed b ≡ true
  pub most : n ≤ length (decode b).slots
  pub rest : lowest_from i (holds k f) (take n (decode b).slots) ≡ lowest_from from (holds k f) (take n (decode b).slots)
  pub small : m ≤ 48 * i
  pub total : m + compared k f (drop i (take n (decode b).slots)) ≡ compared k f (drop from (take n (decode b).slots))

pub searching_begins : (k f b : List ℕ) (n from : ℕ) → well_formed b ≡ true → n ≤ length (decode b).slots → Searching k f b n from from 0
searching_begins k f b n from h e = record { well = h; most = e; rest = refl; small = omega arith; total = omega arith }

module _ {k f b : List ℕ} {n from i m : ℕ} (s : Searching k f b n from i m) where
  walk : Walk b (length (decode b).slots)
  walk = record { well = s.well; slots = refl }

  sized : length (take n (decode b).slots) ≡ n
  sized = length-take-le n (decode b).slots s.most

  pub searching_ends : n ≤ i → record { found = None; compared = m } ≡ searched_within from n k f (decode b).slots
  unfolding searched_within
  searching_ends l =
      let past : length (take n (decode b).slots) ≤ i = rw sized l in
      let bytes : m ≡ compared k f (drop from (take n (decode b).slots)) = omega (arith, s.total, counted_end k f (take n (decode b).slots) i past) in
      let slot = (sym (lowest_end (holds k f) (take n (decode b).slots) i past) ∙ s.rest) in
      λ j. record { found = slot j; compared = bytes j }

  -- few slots, so few bytes
  pub searching_slots : n ≤ slots_most
  searching_slots = omega (arith, s.most, (decode_valid b s.well).most)

  searching_few : i < n → m ≤ 24_000
  searching_few l = omega (arith, s.small, searching_slots)

  -- the place of slot i stands in the store, and its bytes are a slot's
  pub searching_inside : i < n → header_size + slot_size * i + slot_size ≤ length b
  searching_inside l = walk_inside walk (omega (arith, s.most))

  pub searching_bytes : {t : List ℕ} → i < n → t ≡ slot_at b i → SlotBytes t
  searching_bytes l e = walk_bytes walk (omega (arith, s.most)) e

  module _ {t : List ℕ} {c : ℕ} (l : i < n) (e : t ≡ slot_at b i) (q : slot_compared k f (decode_slot t) ≡ c) where
    inside : i < length (take n (decode b).slots)
    inside = rw sized l

    slot_is : decode_slot t ≡ get_or (take n (decode b).slots) i None
    slot_is = walk_means walk (omega (arith, s.most)) e ∙ sym (get_or-take n (decode b).slots i None l)

    searching_finds : holds k f (decode_slot t) ≡ true → record { found = Some i; compared = m + c } ≡ searched_within from n k f (decode b).slots
    unfolding searched_within
    searching_finds h =
        let last = counted_hit k f (take n (decode b).slots) i inside (rw slot_is at h) in
        let bytes : m + c ≡ compared k f (drop from (take n (decode b).slots)) = omega (arith, s.total, last, rw slot_is at q) in
        let slot = (sym (lowest_hit (holds k f) (take n (decode b).slots) i inside (rw slot_is at h)) ∙ s.rest) in
        λ j. record { found = slot j; compared = bytes j }

    searching_goes_on : holds k f (decode_slot t) ≡ false → Searching k f b n from (i + 1) (m + c)
    searching_goes_on h =
        let more = counted_skip k f (take n (decode b).slots) i inside (rw slot_is at h) in
        record {
          well = s.well;
          most = s.most;
          rest = sym (lowest_skip (holds k f) (take n (decode b).slots) i inside (rw slot_is at h)) ∙ s.rest;
          small = omega (arith, s.small, slot_most t k f (searching_bytes l e), q);
          total = omega (arith, s.total, more, rw slot_is at q);
        }

  -- slot i is passed over
  pub searching_skips : {t : List ℕ} → i < n → t ≡ slot_at b i → skipped k f (decode_slot t) ≡ true → Searching k f b n from (i + 1) m
  searching_skips {t} l e h =
      let next = searching_goes_on l e (skipped_counts t k f h) (skipped_other k f (decode_slot t) h) in
      let z : m + 0 ≡ m = omega arith in
      rw z at next

-- slot i is compared, up to word w
pub record InSlot (k f ws b : List ℕ) (n from i m : ℕ) (t : List ℕ) (w : ℕ) : Type 0 where
  pub searching : Searching k f b n from i m
  pub inside : i < n
  pub slot : t ≡ slot_at b i
  pub key_bytes : Bytes k
  pub field_bytes : Bytes f
  pub words : ws ≡ name_words k f
  pub lengths : Comparable t k f
  pub alike : Alike t k f w

pub in_slot_begins : {k f ws b : List ℕ} {n from i m : ℕ} {t : List ℕ} → Searching k f b n from i m → i < n → t ≡ slot_at b i → Bytes k → Bytes f → ws ≡ name_words k f
    → skipped k f (decode_slot t) ≡ false → InSlot k f ws b n from i m t 0
in_slot_begins {k} {f} {t = t} s l e p q r h =
    record {
      searching = s;
      inside = l;
      slot = e;
      key_bytes = p;
      field_bytes = q;
      words = r;
      lengths = not_skipped t k f (searching_bytes s l e) h;
      alike = refl;
    }

module _ {k f ws b : List ℕ} {n from i m : ℕ} {t : List ℕ} {w : ℕ} (s : InSlot k f ws b n from i m t w) where
  -- the slot's words are inside it
  pub in_slot_size : length t ≡ slot_size
  in_slot_size = s.lengths.held.slot.size

  pub in_slot_words : length ws ≡ 6
  in_slot_words = six_words ws k f s.words

  -- the name is short, and few bytes were compared
  pub in_slot_key : length k ≤ key_most
  in_slot_key = comparable_key t k f s.lengths

  pub in_slot_field : length f ≤ field_most
  in_slot_field = comparable_field t k f s.lengths

  pub in_slot_few : m ≤ 24_000
  in_slot_few = searching_few s.searching s.inside

  module _ {x : ℕ} (l : w < 6) (p : x ≡ from_le (part (key_at + 8 * w) 8 t)) where
    abbrev y : ℕ
    y = get_or ws w 0

    -- the next word is the same
    pub in_slot_goes_on : x ≡ y → InSlot k f ws b n from i m t (w + 1)
    in_slot_goes_on d =
        record {
          searching = s.searching;
          inside = s.inside;
          slot = s.slot;
          key_bytes = s.key_bytes;
          field_bytes = s.field_bytes;
          words = s.words;
          lengths = s.lengths;
          alike = alike_goes_on t k f s.lengths w x y ws l s.alike s.key_bytes s.field_bytes s.words p refl d;
        }

    -- it differs: the search goes on in the next slot, with the bytes before the word and those in it
    pub in_slot_leaves : {a c : ℕ} → (x ≡ y → ⊥) → a ≡ run_start w (length k) → c ≡ run_compared (to_le 8 x) (to_le 8 y) → Searching k f b n from (i + 1) (m + (a + c))
    in_slot_leaves d g h =
        rw (g, h)
        (searching_goes_on s.searching s.inside s.slot
        (alike_counts t k f s.lengths w x y ws l s.alike s.key_bytes s.field_bytes s.words p refl d)
        (alike_fails t k f s.lengths w x y ws l s.alike s.key_bytes s.field_bytes s.words p refl d))

  -- all words are the same
  pub in_slot_finds : 6 ≤ w → record { found = Some i; compared = m + (length k + length f) } ≡ searched_within from n k f (decode b).slots
  in_slot_finds l =
      searching_finds s.searching s.inside s.slot (alike_counts_all t k f s.lengths w l s.alike) (alike_holds t k f s.lengths w l s.alike)

-- among all slots
pub search_whole : (k f : List ℕ) (n : ℕ) (ss : List Slot) → n ≡ length ss → searched_within 0 n k f ss ≡ searched k f ss
unfolding searched_within searched
search_whole k f n ss e = rw (e, take-length ss) (λ j. record { found = (lowest_begin (holds k f) ss j); compared = compared k f ss })

-- ---- slots with the field's fingerprint, one by one

-- it is of the field's words
pub fingerprint_named : (k f : List ℕ) {ws : List ℕ} → ws ≡ name_words k f → bit_xor (get_or ws 2 0) (get_or ws 3 0) ≡ fingerprint_of f
unfolding name_words fingerprint_of
fingerprint_named k f e = rw e

module _ (k f : List ℕ) {b : List ℕ} {n i : ℕ} {o : Option ℕ} {r : Option ℕ} (s : Seek (holds k f) b n i o) (l : i < n)
    (e : r ≡ (searched_within i (i + 1) k f (decode b).slots).found) where
  abbrev ss : List Slot
  ss = (decode b).slots

  here : i < length ss
  here = within s.walk l

  one : length (take (i + 1) ss) ≡ i + 1
  one = length-take-le (i + 1) ss (omega (arith, here))

  only : get_or (take (i + 1) ss) i None ≡ get_or ss i None
  only = get_or-take (i + 1) ss i None (omega arith)

  -- the slot is the match, or it is not
  hit : holds k f (get_or ss i None) ≡ true → r ≡ Some i
  unfolding searched_within
  hit h = e ∙ (lowest_hit (holds k f) (take (i + 1) ss) i (rw one (omega arith)) (rw only h))

  miss : holds k f (get_or ss i None) ≡ false → r ≡ None
  unfolding searched_within
  miss h =
      e
      ∙ (lowest_skip (holds k f) (take (i + 1) ss) i (rw one (omega arith)) (rw only h)
      ∙ lowest_end (holds k f) (take (i + 1) ss) (i + 1) (rw one (omega arith)))

  pub candidate_found : {j : ℕ} → r ≡ Some j → Some j ≡ o
  candidate_found {j} q = go (holds k f (get_or ss i None)) refl
    where
      go : (x : Bool) → holds k f (get_or ss i None) ≡ x → Some j ≡ o
      go true h = sym q ∙ hit h ∙ (sym (lowest_hit (holds k f) ss i here h) ∙ s.rest)
      go false h = let z : Some j ≡ None = sym q ∙ miss h in impossible cc

  pub candidate_passed : r ≡ None → Seek (holds k f) b n (i + 1) o
  candidate_passed q = go (holds k f (get_or ss i None)) refl
    where
      go : (x : Bool) → holds k f (get_or ss i None) ≡ x → Seek (holds k f) b n (i + 1) o
      go true h = let z : Some i ≡ None = sym (hit h) ∙ q in impossible cc
      go false h = record { walk = s.walk; rest = sym (lowest_skip (holds k f) ss i here h) ∙ s.rest }
