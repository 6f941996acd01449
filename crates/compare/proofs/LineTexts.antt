-- Lines and their text: one line, the lines of one slot, and those of the slots that are left.
use Rattle.std.specs.Prelude.{Option, None, Some}
use mathlib.Core.Path.{◌≡◌, refl, sym, subst, ◌∙◌}
use mathlib.Core.Bool.{true, false}
use mathlib.Core.List.{List, [], ◌∷◌, ◌++◌, map, flatten, append_assoc, append-nil, map-append}
use Prim.Native.Nat.{ℕ, ◌+◌, ◌-◌, ◌≤◌, ◌<◌}
use native.Mathlib.Numerals.{add-one}
use native.Mathlib.Omega.{arith}
use lib.ListN.{length, take, drop, get_or, set, length-append, length-set, drop_of_length-le}
use lib.Seq.{drop-cons}
use borrow.Rule.Slice.PartMut.{put_mid}
use Rattle.wire.specs.Lists.{or_else}
use Rattle.wire.specs.Bytes.{text}
use Rattle.wire.specs.Integers.{natural_text}
use Rattle.wire.specs.Promises.{Laid}
use Rattle.wire.proofs.Lists.{impossible}
use Rattle.wire.proofs.ReplyLaws.{flatten_append}
use Rattle.wire.proofs.ReplyLaying.{laid_first, laid_more, laid_length, length_tail, front_room}
use Rattle.wire.proofs.Elements.{Next}
use Rattle.store.specs.Store.{Slot, blank, decode, slot_count, well_formed, entry_at}
use Rattle.store.specs.Time.{empty_slot, live_slot}
use Rattle.store.specs.Promises.{Held}
use Rattle.store.proofs.Encode.{length_decode}
use Rattle.compare.specs.declared.Pass.{Pass}
use Rattle.compare.specs.declared.Pass.TheVariants as passes
use Rattle.compare.specs.Listing.{first_mark, second_mark, Line, line_of, lines_from, lines, spaced, line_text, listing_of, listing}
use Rattle.compare.specs.Promises.{pass_mark, marked, slot_text, pass_text}

-- ---- one line

-- a space and a number, where there is room for them
module _ (n : ℕ) (d : List ℕ) (room : length (spaced n) ≤ length d) where
  pub spaced_first : 0 < length d
  unfolding spaced text
  spaced_first = omega (arith, room)

  pub spaced_inside : 1 ≤ length (set d 0 32)
  spaced_inside = rw length-set (omega (arith, spaced_first))

  pub spaced_room : length (natural_text n) ≤ length (take (length (set d 0 32) - 1) (drop 1 (set d 0 32)))
  unfolding spaced text
  spaced_room = omega (arith, room, length_tail 32 d spaced_first)

  pub spaced_laid : {e : List ℕ} {r : ℕ} → Laid (natural_text n) (take (length (set d 0 32) - 1) (drop 1 (set d 0 32))) e r
      → Laid (spaced n) d (put_mid 1 (length (set d 0 32) - 1) (set d 0 32) e) (r + 1)
  unfolding spaced text
  spaced_laid l = laid_first 32 spaced_first l

-- a line, where there is room for it
module _ (m k f s : ℕ) (d : List ℕ) (room : length (marked m k f s) ≤ length d) where
  whole : (((m ∷ spaced k) ++ spaced f) ++ spaced s) ++ (10 ∷ []) ≡ marked m k f s
  unfolding marked text
  whole = rw (append_assoc (m ∷ (spaced k ++ spaced f)) (spaced s) (10 ∷ []), append_assoc (spaced k) (spaced f) (spaced s ++ (10 ∷ [])))

  pub room_all : length ((((m ∷ spaced k) ++ spaced f) ++ spaced s) ++ (10 ∷ [])) ≤ length d
  room_all = subst (λ (x : List ℕ). length x ≤ length d) (sym whole) room

  pub room_slot_lem : length (((m ∷ spaced k) ++ spaced f) ++ spaced s) ≤ length d
  room_slot_lem = front_room (((m ∷ spaced k) ++ spaced f) ++ spaced s) (10 ∷ []) room_all

  pub room_field : length ((m ∷ spaced k) ++ spaced f) ≤ length d
  room_field = front_room ((m ∷ spaced k) ++ spaced f) (spaced s) room_slot_lem

  pub room_key : length (m ∷ spaced k) ≤ length d
  room_key = front_room (m ∷ spaced k) (spaced f) room_field

  pub mark_space : 1 ≤ length (set d 0 m)
  mark_space = rw length-set (omega (arith, room_key))

  pub key_space : length (spaced k) ≤ length (take (length (set d 0 m) - 1) (drop 1 (set d 0 m)))
  key_space = omega (arith, room_key, length_tail m d (omega (arith, room_key)))

  pub key_laid : {e : List ℕ} {r : ℕ} → Laid (spaced k) (take (length (set d 0 m) - 1) (drop 1 (set d 0 m))) e r
      → Laid (m ∷ spaced k) d (put_mid 1 (length (set d 0 m) - 1) (set d 0 m) e) (r + 1)
  key_laid l = laid_first m (omega (arith, room_key)) l

  module _ {e : List ℕ} {r : ℕ} (l : Laid (((m ∷ spaced k) ++ spaced f) ++ spaced s) d e r) where
    pub newline_inside : r < length e
    newline_inside = omega (arith, l.size, laid_length l room_slot_lem, room_all, length-append (((m ∷ spaced k) ++ spaced f) ++ spaced s) (10 ∷ []))

    pub line_laid : Laid (marked m k f s) d (set e r 10) (r + 1)
    line_laid = subst (λ (x : List ℕ). Laid x d (set e r 10) (r + 1)) whole (laid_more 10 l (omega (arith, room_all, length-append (((m ∷ spaced k) ++ spaced f) ++ spaced s) (10 ∷ []))))

-- ---- the lines of one slot

pub listing_append : (ls ms : List Line) → listing_of (ls ++ ms) ≡ listing_of ls ++ listing_of ms
unfolding listing_of
listing_append ls ms = rw (map-append line_text ls ms) (flatten_append (map line_text ls) (map line_text ms))

-- a slot of a store, and one whose entry is live
module _ (b : List ℕ) (i : ℕ) (w : well_formed b ≡ true) (l : i < length (decode b).slots) where
  pub slot_inside : (well_formed b ≡ true) × (i < slot_count b)
  slot_inside = (w, rw (← length_decode b) l)

  pub live_slot_lem : (instant : ℕ) → live_slot instant (get_or (decode b).slots i None) ≡ true → Held b i
  unfolding live_slot empty_slot or_else
  live_slot_lem instant h = record { well = w; inside = slot_inside.1; held = held (get_or (decode b).slots i None) h }
    where
      held : (s : Slot) → live_slot instant s ≡ true → empty_slot s ≡ false
      held None q = impossible cc
      held (Some e) q = refl

module _ (pass : Pass) (instant : ℕ) (b other : List ℕ) (i : ℕ) where
  -- a slot whose entry is not live has no line
  pub slot_dead : live_slot instant (get_or (decode b).slots i None) ≡ false → slot_text pass instant b other i ≡ []
  unfolding slot_text line_of listing_of flatten live_slot or_else
  slot_dead = go (get_or (decode b).slots i None)
    where
      go : (s : Slot) → live_slot instant s ≡ false → listing_of (line_of instant (pass_mark pass instant (decode other).slots) i s) ≡ []
      go None h = refl
      go (Some e) h = rw h

  module _ (l : live_slot instant (get_or (decode b).slots i None) ≡ true) {o : Option ℕ}
      (h : o ≡ pass_mark pass instant (decode other).slots (entry_at (decode b).slots i)) where
    -- nor has one whose entry gets no mark
    pub slot_unmarked : o ≡ None → slot_text pass instant b other i ≡ []
    unfolding slot_text line_of listing_of flatten live_slot or_else entry_at
    slot_unmarked z = go (get_or (decode b).slots i None) l (sym h ∙ z)
      where
        go : (s : Slot) → live_slot instant s ≡ true → pass_mark pass instant (decode other).slots (or_else s blank (λ e. e)) ≡ None
            → listing_of (line_of instant (pass_mark pass instant (decode other).slots) i s) ≡ []
        go None x q = refl
        go (Some e) x q = rw (x, q)

    -- the line of the others
    pub slot_marked : {m : ℕ} → o ≡ Some m
        → slot_text pass instant b other i ≡ marked m (length (entry_at (decode b).slots i).key) (length (entry_at (decode b).slots i).field) i
    unfolding slot_text line_of listing_of line_text marked flatten live_slot or_else entry_at
    slot_marked {m} z = go (get_or (decode b).slots i None) l (sym h ∙ z)
      where
        go : (s : Slot) → live_slot instant s ≡ true → pass_mark pass instant (decode other).slots (or_else s blank (λ e. e)) ≡ Some m
            → listing_of (line_of instant (pass_mark pass instant (decode other).slots) i s)
            ≡ marked m (length (or_else s blank (λ e. e)).key) (length (or_else s blank (λ e. e)).field) i
        go None x q = impossible cc
        go (Some e) x q = rw (x, q) (append-nil _)

-- ---- the lines of the slots from slot i on

pub rest_text : Pass → ℕ → List ℕ → List ℕ → ℕ → List ℕ
rest_text pass instant b other i = listing_of (lines_from instant (pass_mark pass instant (decode other).slots) i (drop i (decode b).slots))

module _ (pass : Pass) (instant : ℕ) (b other : List ℕ) where
  pub rest_begins : rest_text pass instant b other 0 ≡ pass_text pass instant b other
  unfolding rest_text pass_text
  rest_begins = refl

  pub rest_next : (i : ℕ) → i < length (decode b).slots → Next (rest_text pass instant b other i) (slot_text pass instant b other i) (rest_text pass instant b other (i + 1))
  unfolding rest_text slot_text lines_from
  rest_next i l =
      record {
        parts =
            rw (drop-cons (decode b).slots i None l, add-one)
            (listing_append (line_of instant (pass_mark pass instant (decode other).slots) i (get_or (decode b).slots i None)) _);
      }

  pub rest_ends : (i : ℕ) → length (decode b).slots ≤ i → rest_text pass instant b other i ≡ []
  unfolding rest_text lines_from listing_of flatten
  rest_ends i l = rw (drop_of_length-le (decode b).slots l)

-- ---- the whole listing: the first store's lines, then the second's

pub listing_parts : (instant : ℕ) (first second : List ℕ)
    → listing instant (decode first) (decode second) ≡ pass_text passes.First instant first second ++ pass_text passes.Second instant second first
unfolding listing lines pass_text pass_mark
listing_parts instant first second =
    listing_append (lines_from instant (first_mark instant (decode second).slots) 0 (decode first).slots) (lines_from instant (second_mark instant (decode first).slots) 0 (decode second).slots)

pub listing_room : (instant : ℕ) (first second : List ℕ) {n : ℕ} → length (listing instant (decode first) (decode second)) ≤ n
    → length (pass_text passes.First instant first second ++ pass_text passes.Second instant second first) ≤ n
listing_room instant first second h = rw (listing_parts instant first second) at h
