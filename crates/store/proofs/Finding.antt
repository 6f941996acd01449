-- Searches and counts over the slots of a store, in ascending order, for any test of a slot. A loop has come to slot i: what is left does the same.
use Rattle.std.specs.Prelude.{Option, None, Some, option_map, is_some}
use mathlib.Core.Path.{◌≡◌, refl, sym, ap, ◌∙◌}
use mathlib.Core.Bool.{Bool, true, false, cond, ◌||◌}
use mathlib.Core.List.{List, [], ◌∷◌}
use Prim.Native.Nat.{ℕ, suc, ◌+◌, ◌*◌, ◌≤◌, ◌<◌}
use native.Mathlib.Numerals.{add-one}
use native.Mathlib.Omega.{arith}
use lib.ListN.{length, drop, get_or, length-drop, drop_of_length-le}
use lib.Seq.{drop-cons, get_or-drop}
use Rattle.wire.specs.Lists.{any, keep, or_else}
use Rattle.wire.proofs.Lists.{both_ways, impossible}
use Rattle.wire.specs.Bytes.{part}
use Rattle.store.specs.Layout.{header_size, slot_size, field_at, field_most}
use Rattle.store.specs.Store.{Slot, decode_slot, slot_count, decode, well_formed, holds}
use Rattle.store.specs.Time.{lowest_slot, empty_slot}
use Rattle.store.specs.Promises.{SlotBytes, Held, fingerprint_of, lowest_from, Skips, slot_at}
use Rattle.store.proofs.SlotParts.{other_fingerprint}
use Rattle.store.proofs.Slots.{Lowest, lowest_some, lowest_only}
use Rattle.store.proofs.Encode.{length_decode, decode_valid}
use Rattle.store.proofs.ReadAt.{slot_inside, slot_bytes_lem, slot_means}

-- ---- lists of slots

module _ (p : Slot → Bool) (ss : List Slot) where
  -- from the first slot on
  pub lowest_begin : lowest_from 0 p ss ≡ lowest_slot p ss
  unfolding lowest_from
  lowest_begin = go (lowest_slot p ss)
    where
      go : (o : Option ℕ) → option_map (λ j. 0 + j) o ≡ o
      go None = refl
      go (Some j) = ap Some (omega arith)

  -- past the last slot there is none
  pub lowest_end : (i : ℕ) → length ss ≤ i → lowest_from i p ss ≡ None
  unfolding lowest_from lowest_slot
  lowest_end i l = rw (drop_of_length-le ss l)

  -- slot i is the one
  pub lowest_hit : (i : ℕ) → i < length ss → p (get_or ss i None) ≡ true → lowest_from i p ss ≡ Some i
  unfolding lowest_from lowest_slot
  lowest_hit i l h = rw (drop-cons ss i None l, h) (ap Some (omega arith))

  -- slot i is not
  pub lowest_skip : (i : ℕ) → i < length ss → p (get_or ss i None) ≡ false → lowest_from i p ss ≡ lowest_from (i + 1) p ss
  unfolding lowest_from lowest_slot
  lowest_skip i l h = rw (drop-cons ss i None l, h, add-one) (go (lowest_slot p (drop (suc i) ss)))
    where
      go : (o : Option ℕ) → option_map (λ j. i + j) (option_map suc o) ≡ option_map (λ j. suc i + j) o
      go None = refl
      go (Some j) = ap Some (omega arith)

  -- of the slots from i on one more is kept, or no more
  pub keep_hit : (i : ℕ) → i < length ss → p (get_or ss i None) ≡ true → length (keep p (drop i ss)) ≡ suc (length (keep p (drop (i + 1) ss)))
  unfolding keep
  keep_hit i l h = rw (drop-cons ss i None l, h, add-one)

  pub keep_skip : (i : ℕ) → i < length ss → p (get_or ss i None) ≡ false → length (keep p (drop i ss)) ≡ length (keep p (drop (i + 1) ss))
  unfolding keep
  keep_skip i l h = rw (drop-cons ss i None l, h, add-one)

  pub keep_end : (i : ℕ) → length ss ≤ i → length (keep p (drop i ss)) ≡ 0
  unfolding keep
  keep_end i l = rw (drop_of_length-le ss l)

-- some slot passes a test where there is a lowest
pub any_lowest : (p : Slot → Bool) (ss : List Slot) → any p ss ≡ is_some (lowest_slot p ss)
unfolding any lowest_slot
any_lowest p [] = refl
any_lowest p (s ∷ ss) = rw (any_lowest p ss) (go (p s) (lowest_slot p ss))
  where
    go : (t : Bool) (o : Option ℕ) → (t || is_some o) ≡ is_some (cond t (Some 0) (option_map suc o))
    go true o = refl
    go false None = refl
    go false (Some i) = refl

-- ---- a slot that was found holds an entry, where the test fails of an empty one

not_empty : (p : Slot → Bool) (s : Slot) → p None ≡ false → p s ≡ true → empty_slot s ≡ false
unfolding empty_slot or_else
not_empty p None z h = both_ways h z
not_empty p (Some e) z h = refl

module _ (p : Slot → Bool) (b : List ℕ) (from i : ℕ) (z : p None ≡ false) (w : well_formed b ≡ true) where
  later_held : (j : ℕ) → from + j ≡ i → Lowest p (drop from (decode b).slots) j → Held b i
  later_held j e l =
      let m : i < length (decode b).slots = omega (arith, l.inside, length-drop from (decode b).slots) in
      let h : p (get_or (decode b).slots (from + j) None) ≡ true = rw get_or-drop at l.here in
      record {
        well = w;
        inside = rw (← length_decode b) m;
        held = not_empty p (get_or (decode b).slots i None) z (rw e at h);
      }

  pub found_held : Some i ≡ lowest_from from p (decode b).slots → Held b i
  unfolding lowest_from
  found_held h = go (lowest_slot p (drop from (decode b).slots)) refl h
    where
      go : (o : Option ℕ) → lowest_slot p (drop from (decode b).slots) ≡ o → Some i ≡ (option_map (λ j. from + j) o) → Held b i
      go None q r = impossible cc
      go (Some j) q r = later_held j (cc) (lowest_some p (drop from (decode b).slots) j q)

pub named_held : (p : Slot → Bool) (b : List ℕ) (i : ℕ) → p None ≡ false → well_formed b ≡ true → Some i ≡ lowest_slot p (decode b).slots → Held b i
named_held p b i z w h = found_held p b 0 i z w (rw (lowest_begin p (decode b).slots) h)

-- ---- a loop over the n slots of a well-formed store

pub record Walk (b : List ℕ) (n : ℕ) : Type 0 where
  pub well : well_formed b ≡ true
  pub slots : n ≡ length (decode b).slots

module _ {b : List ℕ} {n i : ℕ} (w : Walk b n) (l : i < n) where
  pub within : i < length (decode b).slots
  within = rw (← w.slots) l

  counted : i < slot_count b
  counted = rw (← length_decode b) within

  -- the store has slot i
  pub walk_counted : (well_formed b ≡ true) × (i < slot_count b)
  walk_counted = (w.well, counted)

  -- the place of slot i stands in the store
  pub walk_inside : header_size + slot_size * i + slot_size ≤ length b
  walk_inside = slot_inside b i w.well counted

  module _ {t : List ℕ} (e : t ≡ slot_at b i) where
    -- its bytes are a slot's
    pub walk_bytes : SlotBytes t
    walk_bytes = slot_bytes_lem b i w.well counted e

    -- they mean the store's slot
    pub walk_means : decode_slot t ≡ get_or (decode b).slots i None
    walk_means = slot_means b i counted e

    -- a test of what they mean tests the store's slot
    pub walk_test : {r x : Bool} (p : Slot → Bool) → r ≡ p (decode_slot t) → r ≡ x → p (get_or (decode b).slots i None) ≡ x
    walk_test p q h = rw (← walk_means, ← q) h

-- ---- searches

-- from slot i on the answer is o
pub record Seek (p : Slot → Bool) (b : List ℕ) (n i : ℕ) (o : Option ℕ) : Type 0 where
  pub walk : Walk b n
  pub rest : lowest_from i p (decode b).slots ≡ o

pub seek_from : (p : Slot → Bool) {b : List ℕ} {n i : ℕ} → Walk b n → Seek p b n i (lowest_from i p (decode b).slots)
seek_from p w = record { walk = w; rest = refl }

pub seek_begins : (p : Slot → Bool) (b : List ℕ) {n : ℕ} → well_formed b ≡ true → n ≡ length (decode b).slots → Seek p b n 0 (lowest_slot p (decode b).slots)
seek_begins p b h e = record { walk = record { well = h; slots = e }; rest = lowest_begin p (decode b).slots }

module _ {p : Slot → Bool} {b : List ℕ} {n i : ℕ} {o : Option ℕ} (s : Seek p b n i o) where
  pub seek_ends : n ≤ i → None ≡ o
  seek_ends l = rw (← s.rest, lowest_end p (decode b).slots i (rw (← s.walk.slots) l))

  module _ {t : List ℕ} {r : Bool} (l : i < n) (e : t ≡ slot_at b i) (q : r ≡ p (decode_slot t)) where
    pub seek_finds : r ≡ true → Some i ≡ o
    seek_finds h = rw (← s.rest, lowest_hit p (decode b).slots i (within s.walk l) (walk_test s.walk l e p q h))

    pub seek_goes_on : r ≡ false → Seek p b n (i + 1) o
    seek_goes_on h =
        record {
          walk = s.walk;
          rest = sym (lowest_skip p (decode b).slots i (within s.walk l) (walk_test s.walk l e p q h)) ∙ s.rest;
        }

-- ---- slots of another fingerprint are skipped

pub skips_none : (x from : ℕ) (ss : List Slot) → Skips x from ss from
skips_none x from ss = record { later = omega arith; rest = λ k f e. refl }

pub skips_on : {x from n i y : ℕ} {b t : List ℕ} → Walk b n → i < n → t ≡ slot_at b i → Skips x from (decode b).slots i
    → y ≡ fingerprint_of (part field_at field_most t) → (y ≡ x → ⊥) → Skips x from (decode b).slots (i + 1)
skips_on {x} {i = i} {b = b} {t = t} w l e s q n =
    record {
      later = omega (arith, s.later);
      rest = λ k f h. s.rest k f h
          ∙ lowest_skip (holds k f) (decode b).slots i (within w l)
          (walk_test w l e {x = false} (holds k f) refl (other_fingerprint t k f (walk_bytes w l e) (λ p. n (q ∙ p ∙ sym h))));
    }

-- a search goes on after them
pub seek_skips : (k f : List ℕ) {b : List ℕ} {n i x r : ℕ} {o : Option ℕ} → Seek (holds k f) b n i o → x ≡ fingerprint_of f → Skips x i (decode b).slots r
    → Seek (holds k f) b n r o
seek_skips k f s e h = record { walk = s.walk; rest = sym (h.rest k f e) ∙ s.rest }

-- slot i holds a name: no other does
pub hint_finds : (k f : List ℕ) {b t : List ℕ} {n i : ℕ} {r : Bool} → Walk b n → i < n → t ≡ slot_at b i → r ≡ holds k f (decode_slot t) → r ≡ true
    → Some i ≡ lowest_slot (holds k f) (decode b).slots
hint_finds k f {b} {i = i} w l e q h = rw (lowest_only k f (decode b).slots i (decode_valid b w.well).apart (walk_test w l e (holds k f) q h))

-- ---- counts

-- m of the slots before slot i are kept
pub record Count (p : Slot → Bool) (b : List ℕ) (n m i : ℕ) : Type 0 where
  pub walk : Walk b n
  pub most : m ≤ i
  pub total : m + length (keep p (drop i (decode b).slots)) ≡ length (keep p (decode b).slots)

pub count_begins : (p : Slot → Bool) (b : List ℕ) {n : ℕ} → well_formed b ≡ true → n ≡ length (decode b).slots → Count p b n 0 0
count_begins p b h e = record { walk = record { well = h; slots = e }; most = omega arith; total = omega arith }

module _ {p : Slot → Bool} {b : List ℕ} {n m i : ℕ} (s : Count p b n m i) where
  pub count_ends : n ≤ i → m ≡ length (keep p (decode b).slots)
  count_ends l =
      let z : length (keep p (drop i (decode b).slots)) ≡ 0 = keep_end p (decode b).slots i (rw (← s.walk.slots) l) in
      omega (arith, s.total)

  module _ {t : List ℕ} {r : Bool} (l : i < n) (e : t ≡ slot_at b i) (q : r ≡ p (decode_slot t)) where
    pub count_adds : r ≡ true → Count p b n (m + 1) (i + 1)
    count_adds h =
        record {
          walk = s.walk;
          most = omega (arith, s.most);
          total = omega (arith, s.total, keep_hit p (decode b).slots i (within s.walk l) (walk_test s.walk l e p q h));
        }

    pub count_goes_on : r ≡ false → Count p b n m (i + 1)
    count_goes_on h =
        record {
          walk = s.walk;
          most = omega (arith, s.most);
          total = omega (arith, s.total, keep_skip p (decode b).slots i (within s.walk l) (walk_test s.walk l e p q h));
        }

-- ---- what an answer of a search says

-- a slot was found
pub found_at : (o : Option ℕ) (i : ℕ) → Some i ≡ o → o ≡ Some i
found_at None i h = cc
found_at (Some j) i h = cc

-- none was
pub found_nothing : (o : Option ℕ) → None ≡ o → o ≡ None
found_nothing None h = refl
found_nothing (Some j) h = cc
