-- Laws of the tests of a store's bytes, in the forms in which the code makes them.
use Rattle.std.specs.Prelude.{None}
use mathlib.Core.Path.{◌≡◌, refl, sym, ◌∙◌}
use mathlib.Core.Bool.{Bool, true, false, cond, ◌&&◌, and-true, and-false, or-true}
use mathlib.Core.List.{List, [], ◌∷◌}
use Prim.Native.Nat.{ℕ, zero, suc, ◌+◌, ◌-◌, ◌*◌, ◌≤◌, ◌<◌}
use native.Mathlib.Omega.{arith}
use lib.Dec.{leb}
use lib.ListN.{length, drop, get_or, length-map, get_or-map, drop_of_length-le}
use lib.Seq.{drop-drop, drop-cons}
use lib.Pow.{are_bytes}
use borrow.Author.Tests.{eq-eqb, ne_eqb, le-leb, lt-leb, leb-true, leb-false, eqb-true}
use Rattle.wire.specs.Lists.{every, all, any}
use Rattle.wire.specs.Bytes.{Bytes, part}
use Rattle.wire.proofs.Lists.{all_at, every_at, and_both, both_ways}
use Rattle.wire.proofs.ByteLaws.{bytes_part}
use Rattle.store.specs.Layout.{header_size, slot_size, slots_most}
use Rattle.store.specs.Store.{decode_slot, slots_in, slots_within, slot_count, slot_bytes, decode, slot_well, holds, distinct, well_formed, size_tests, header_tests}
use Rattle.store.specs.Promises.{SlotBytes, slot_at, count_for, slots_of, SlotsWell, slots_good}
use Rattle.store.proofs.Pieces.{length_part}
use Rattle.store.proofs.Encode.{length_slots_in}
use Rattle.store.proofs.Places.{slots_in_at}
use Rattle.store.proofs.SlotChecks.{every_fails}

-- what holds of each element holds of all
all_from : {A : Type 0} (p : A → Bool) (xs : List A) (d : A) → ((i : ℕ) → i < length xs → p (get_or xs i d) ≡ true) → all p xs ≡ true
unfolding all
all_from p [] d h = refl
all_from p (x ∷ xs) d h = and_both (h 0 (omega arith)) (all_from p xs d (λ i l. h (suc i) (omega arith)))

-- ---- slots by their number

module _ (count : ℕ) (b : List ℕ) where
  abbrev pieces : List (List ℕ)
  pieces = slots_in count (drop header_size b)

  -- the piece at a number is the slot's bytes
  piece_at : (i : ℕ) (d : List ℕ) → i < count → get_or pieces i d ≡ slot_at b i
  unfolding part
  piece_at i d l = rw (← drop-drop (slot_size * i) header_size b) (slots_in_at count (drop header_size b) i d l)

  -- what a slot holds is what its bytes mean
  pub slots_of_at : (i : ℕ) → i < count → get_or (slots_of count b) i None ≡ decode_slot (slot_at b i)
  unfolding slots_of decode_slot
  slots_of_at i l = get_or-map decode_slot pieces i [] ∙ rw (piece_at i [] l)

  -- there are so many
  pub length_slots_of : length (slots_of count b) ≡ count
  unfolding slots_of
  length_slots_of = rw (length-map, length_slots_in)

  -- a slot's bytes are as long as a slot
  pub slot_size_lem : (i : ℕ) → header_size + slot_size * count ≤ length b → i < count → length (slot_at b i) ≡ slot_size
  slot_size_lem i h l = length_part (header_size + slot_size * i) slot_size b (omega arith)

  -- well-formed slots, one by one
  pub slot_bytes_lem : (from i : ℕ) → SlotsWell count b from → from ≤ i → i < count → SlotBytes (slot_at b i)
  slot_bytes_lem from i w k l =
      record {
        size = slot_size_lem i w.size l;
        bytes = bytes_part (header_size + slot_size * i) slot_size b w.bytes;
        well = w.well i k l;
      }

  -- the later ones of them
  pub slots_later : (i : ℕ) → SlotsWell count b i → SlotsWell count b (i + 1)
  slots_later i w = record { size = w.size; bytes = w.bytes; well = λ j k l. w.well j (omega arith) l }

  -- one that is not is enough
  pub one_wrong : (i : ℕ) → i < count → slot_well (slot_at b i) ≡ false → all slot_well (slots_in count (drop header_size b)) ≡ false
  one_wrong i l h = go (all slot_well pieces) refl
    where
      go : (x : Bool) → all slot_well pieces ≡ x → x ≡ false
      go true q =
          let m : i < length pieces = rw length_slots_in l in
          both_ways (rw (piece_at i [] l) at (all_at slot_well pieces [] q i m)) h
      go false q = refl

  -- all together
  pub all_well : ((i : ℕ) → i < count → slot_well (slot_at b i) ≡ true) → all slot_well (slots_in count (drop header_size b)) ≡ true
  all_well h = all_from slot_well pieces [] (λ i m. each i (rw length_slots_in at m))
    where
      each : (i : ℕ) → i < count → slot_well (get_or pieces i []) ≡ true
      each i l = rw (piece_at i [] l) (h i l)

-- ---- one slot after the other

-- No slot from i on has a name.
pub record Seeking (k f : List ℕ) (count : ℕ) (b : List ℕ) (from i : ℕ) : Type 0 where
  pub reached : from ≤ i
  pub inside : i ≤ count
  pub none_later : any (holds k f) (drop i (slots_of count b)) ≡ false

-- one of the later elements is enough
any_drop : {A : Type 0} (p : A → Bool) (n : ℕ) (xs : List A) → any p (drop n xs) ≡ true → any p xs ≡ true
unfolding any
any_drop p zero xs h = h
any_drop p (suc n) [] h = h
any_drop p (suc n) (x ∷ xs) h = rw (any_drop p n xs h) (or-true (p x))

module _ (k f : List ℕ) (count : ℕ) (b : List ℕ) (from : ℕ) where
  pub seek_begins : from ≤ count → Seeking k f count b from count
  unfolding any
  seek_begins h =
      let m : length (slots_of count b) ≤ count = omega (arith, length_slots_of count b) in
      record { reached = h; inside = omega arith; none_later = rw (drop_of_length-le (slots_of count b) m) }

  module _ (i : ℕ) (g : Seeking k f count b from i) (l : from < i) where
    seek_rest : drop (i - 1) (slots_of count b) ≡ decode_slot (slot_at b (i - 1)) ∷ drop i (slots_of count b)
    seek_rest =
        let n : i - 1 < count = omega (arith, g.inside) in
        let m : i - 1 < length (slots_of count b) = omega (arith, length_slots_of count b) in
        let s : suc (i - 1) ≡ i = omega arith in
        drop-cons (slots_of count b) (i - 1) None m ∙ rw (slots_of_at count b (i - 1) n, s)

    pub seek_finds : holds k f (decode_slot (slot_at b (i - 1))) ≡ true → any (holds k f) (drop from (slots_of count b)) ≡ true
    unfolding any
    seek_finds h =
        let e : from + (i - 1 - from) ≡ i - 1 = omega arith in
        any_drop (holds k f) (i - 1 - from) (drop from (slots_of count b)) (rw (drop-drop (i - 1 - from) from (slots_of count b), e, seek_rest, h))

    pub seek_goes_on : holds k f (decode_slot (slot_at b (i - 1))) ≡ false → Seeking k f count b from (i - 1)
    unfolding any
    seek_goes_on h = record { reached = omega arith; inside = omega (arith, g.inside); none_later = rw (seek_rest, h) g.none_later }

  pub seek_ends : (i : ℕ) → Seeking k f count b from i → i ≤ from → any (holds k f) (drop from (slots_of count b)) ≡ false
  seek_ends i g h = let e : i ≡ from = omega (arith, g.reached) in rw e at g.none_later

-- ---- the size

module _ (size : ℕ) where
  abbrev slots : ℕ
  slots = slots_within size

  -- the count by the size, as the code finds it
  count_failed : every (size_tests size) ≡ false → 0 ≡ count_for size
  unfolding count_for
  count_failed h = rw h

  pub count_short : size < header_size → 0 ≡ count_for size
  unfolding size_tests
  count_short h = count_failed (every_fails _ 0 (ne_eqb size (header_size + slot_size * slots) (λ e. omega arith)))

  pub count_many : slots_most < slots → 0 ≡ count_for size
  unfolding size_tests
  count_many h = count_failed (every_fails _ 2 (lt-leb slots slots_most h))

  pub count_uneven : (header_size + slot_size * slots ≡ size → ⊥) → 0 ≡ count_for size
  unfolding size_tests
  count_uneven h = count_failed (every_fails _ 0 (ne_eqb size (header_size + slot_size * slots) (λ e. h (sym e))))

  pub count_right : slots ≤ slots_most → header_size + slot_size * slots ≡ size → slots ≡ count_for size
  unfolding count_for size_tests every
  count_right m e = rw (eq-eqb size (header_size + slot_size * slots) (sym e), le-leb slots slots_most m) (go (leb 1 slots) refl)
    where
      go : (x : Bool) → leb 1 slots ≡ x → slots ≡ cond (x && (true && true)) slots 0
      go true q = refl
      go false q = let l : slots < 1 = leb-false 1 slots q in omega arith

  -- a count that is not 0 has passed the tests
  counted : (count_for size ≡ 0 → ⊥) → every (size_tests size) ≡ true
  counted n = go (every (size_tests size)) refl
    where
      go : (x : Bool) → every (size_tests size) ≡ x → x ≡ true
      go true q = refl
      go false q = absurd (n (sym (count_failed q)))

  -- and is the number of slots
  count_is : (count_for size ≡ 0 → ⊥) → count_for size ≡ slots
  unfolding count_for
  count_is n = rw (counted n)

  -- and no byte is left
  pub count_fits_lem : (count_for size ≡ 0 → ⊥) → header_size + slot_size * count_for size ≡ size
  unfolding size_tests
  count_fits_lem n = rw (count_is n) (sym (eqb-true size (header_size + slot_size * slots) (every_at _ (counted n) 0)))

-- ---- all tests

module _ (b : List ℕ) where
  -- header and slots are well formed, and no two slots have the same name
  abbrev later_tests : Bool
  later_tests = every (header_tests b) && (all slot_well (slot_bytes b) && distinct (decode b).slots)

  -- the tests of a store: bytes, size, and the others
  parts : well_formed b ≡ are_bytes b && (every (size_tests (length b)) && later_tests)
  unfolding well_formed every
  parts = rw (and-true (distinct (decode b).slots))

  module _ (n : ℕ) (e : n ≡ count_for (length b)) where
    -- bytes of another size are no store
    pub size_wrong : n ≡ 0 → well_formed b ≡ false
    unfolding count_for size_tests
    size_wrong z = rw parts (go (every (size_tests (length b))) refl)
      where
        go : (x : Bool) → every (size_tests (length b)) ≡ x → are_bytes b && (x && later_tests) ≡ false
        go true q =
            let s : count_for (length b) ≡ slots (length b) = rw q in
            absurd (omega (arith, leb-true 1 (slots (length b)) (every_at _ q 1)))
        go false q = and-false (are_bytes b)

    module _ (z : n ≡ 0 → ⊥) where
      nonzero : count_for (length b) ≡ 0 → ⊥
      nonzero y = z (e ∙ y)

      -- header and slots are inside
      pub header_inside : header_size ≤ length b
      header_inside = omega (arith, count_fits_lem (length b) nonzero)

      pub slots_inside : header_size + slot_size * n ≤ length b
      slots_inside = rw e (omega (arith, count_fits_lem (length b) nonzero))

      -- bytes of a store's size are one if header and slots are well formed and no two slots have the same name
      pub size_right : Bytes b → well_formed b ≡ every (header_tests b) && slots_good n b
      unfolding slot_bytes slot_count decode slots_of slots_good
      size_right y = rw (parts, y, counted (length b) nonzero, e, count_is (length b) nonzero)
