-- The slots of which a test holds, found one after the other, and what a listing shows of them.
use Rattle.std.specs.Prelude.{Option, None, Some, option_map}
use mathlib.Core.Path.{◌≡◌, refl, sym, ap, ◌∙◌}
use mathlib.Core.Bool.{Bool, true, false, cond, ◌&&◌}
use mathlib.Core.List.{List, [], ◌∷◌, ◌++◌, flatten, flat_map, append-nil}
use Prim.Native.Nat.{ℕ, suc, ◌+◌, ◌*◌, ◌≤◌, ◌<◌}
use native.Mathlib.Nat.{suc-mul, add_comm}
use native.Mathlib.Omega.{arith}
use borrow.Author.Tests.{eqb-true, eqb-false}
use lib.Dec.{eqb}
use lib.ListN.{length, drop, get_or, set, length-append, length-set}
use lib.Seq.{drop-drop, get_or-drop, ext_get_or}
use Rattle.wire.specs.Lists.{keep, or_else}
use Rattle.wire.specs.Bytes.{same}
use Rattle.wire.specs.Words.{Word}
use Rattle.wire.specs.Replies.{bulk}
use Rattle.wire.proofs.Lists.{both_ways}
use Rattle.wire.proofs.ReplyLaying.{front_room}
use Rattle.store.specs.Store.{Entry, Slot, decode, well_formed, holds, entry_at}
use Rattle.store.specs.Layout.{slots_most}
use Rattle.store.specs.Time.{live_of_key, lowest_slot, without}
use Rattle.store.specs.Promises.{Held, Holds, lowest_from, with_slot}
use Rattle.store.specs.Valid.{Apart}
use Rattle.store.proofs.Slots.{Lowest, lowest_some, lowest_nowhere, holds_none, holds_once}
use Rattle.store.proofs.Put.{get_d_set}
use Rattle.store.proofs.Without.{emptied, length_without, get_d_without}
use Rattle.store.proofs.Encode.{decode_valid, length_decode}
use Rattle.store.proofs.Finding.{found_at, found_nothing, found_held}
use Rattle.store.proofs.Changes.{held_entry}
use Rattle.commands.specs.declared.Listing.{Listing}
use Rattle.commands.specs.declared.Listing.TheVariants.{Fields, Values, Both}
use Rattle.commands.specs.Effect.{change, listed, listed_slot}
use Rattle.commands.specs.Effect.Change.{remove}
use Rattle.commands.specs.Promises.{width_of, Removes}
use Rattle.commands.proofs.Acts.{holds_slots, holds_self}
use Rattle.wire.proofs.ReplyLaws.{flatten_append}
use Rattle.wire.proofs.Elements.{Next}

-- ---- one slot after the other

keep_cons : (p : Slot → Bool) (s : Slot) (ss : List Slot) (t : Bool) (o : Option ℕ) (i : ℕ) → cond t (Some 0) (option_map suc o) ≡ Some i
    → ((j : ℕ) → o ≡ Some j → keep p ss ≡ get_or ss j None ∷ keep p (drop (suc j) ss))
    → cond t (s ∷ keep p ss) (keep p ss) ≡ get_or (s ∷ ss) i None ∷ keep p (drop (suc i) (s ∷ ss))
keep_cons p s ss true o i h later = let z : 0 ≡ i = cc in rw (← z)
keep_cons p s ss false None i h later = cc
keep_cons p s ss false (Some j) i h later = let z : suc j ≡ i = cc in rw (← z) (later j refl)

-- the lowest is the first that is kept
pub keep_lowest : (p : Slot → Bool) (ss : List Slot) (i : ℕ) → lowest_slot p ss ≡ Some i → keep p ss ≡ get_or ss i None ∷ keep p (drop (suc i) ss)
unfolding keep lowest_slot
keep_lowest p [] i h = cc
keep_lowest p (s ∷ ss) i h = keep_cons p s ss (p s) (lowest_slot p ss) i h (keep_lowest p ss)

keep_none : (p : Slot → Bool) (s : Slot) (ss : List Slot) (t : Bool) (o : Option ℕ) → cond t (Some 0) (option_map suc o) ≡ None
    → (o ≡ None → keep p ss ≡ []) → cond t (s ∷ keep p ss) (keep p ss) ≡ []
keep_none p s ss true o h later = cc
keep_none p s ss false None h later = later refl
keep_none p s ss false (Some j) h later = cc

pub keep_nothing : (p : Slot → Bool) (ss : List Slot) → lowest_slot p ss ≡ None → keep p ss ≡ []
unfolding keep lowest_slot
keep_nothing p [] h = refl
keep_nothing p (s ∷ ss) h = keep_none p s ss (p s) (lowest_slot p ss) h (keep_nothing p ss)

module _ (p : Slot → Bool) (ss : List Slot) (from : ℕ) where
  -- from a slot on
  pub keep_from : (i : ℕ) → Some i ≡ lowest_from from p ss
      → (from ≤ i) × (keep p (drop from ss) ≡ get_or ss i None ∷ keep p (drop (i + 1) ss))
  unfolding lowest_from
  keep_from i h = go (lowest_slot p (drop from ss)) refl (found_at (option_map (λ j. from + j) (lowest_slot p (drop from ss))) i h)
    where
      go : (o : Option ℕ) → lowest_slot p (drop from ss) ≡ o → option_map (λ j. from + j) o ≡ Some i
          → (from ≤ i) × (keep p (drop from ss) ≡ get_or ss i None ∷ keep p (drop (i + 1) ss))
      go None q e = let z : from ≡ i = cc in (omega arith, cc)
      go (Some j) q e =
          let z : from + j ≡ i = cc in
          let n : from + suc j ≡ i + 1 = omega arith in (
            omega arith,
            keep_lowest p (drop from ss) j q ∙ rw (get_or-drop from ss j None, z, drop-drop (suc j) from ss, n),
          )

  pub keep_over : None ≡ lowest_from from p ss → keep p (drop from ss) ≡ []
  unfolding lowest_from
  keep_over h = go (lowest_slot p (drop from ss)) refl (found_nothing (option_map (λ j. from + j) (lowest_slot p (drop from ss))) h)
    where
      go : (o : Option ℕ) → lowest_slot p (drop from ss) ≡ o → option_map (λ j. from + j) o ≡ None → keep p (drop from ss) ≡ []
      go None q e = keep_nothing p (drop from ss) q
      go (Some j) q e = cc

-- ---- listings

-- what is shown of one entry
module _ (e : Entry) {l : Listing} where
  pub shown_field : {f : List ℕ} → l ≡ Fields → f ≡ e.field → flatten (listed l e) ≡ bulk f
  unfolding listed flatten
  shown_field h q = rw (h, q) (append-nil (bulk e.field))

  pub shown_value : {v : List ℕ} → l ≡ Values → v ≡ e.value → flatten (listed l e) ≡ bulk v
  unfolding listed flatten
  shown_value h q = rw (h, q) (append-nil (bulk e.value))

  pub shown_both : {f v : List ℕ} → l ≡ Both → f ≡ e.field → v ≡ e.value → flatten (listed l e) ≡ bulk f ++ bulk v
  unfolding listed flatten
  shown_both h q r = rw (h, q, r) (ap (λ (z : List ℕ). bulk e.field ++ z) (append-nil (bulk e.value)))

-- has room
module _ (e : Entry) {l : Listing} {n : ℕ} (room : length (flatten (listed l e)) ≤ n) where
  pub field_room : {f : List ℕ} → l ≡ Fields → f ≡ e.field → length (bulk f) ≤ n
  field_room h q = rw (shown_field e h q) at room

  pub value_room : {v : List ℕ} → l ≡ Values → v ≡ e.value → length (bulk v) ≤ n
  value_room h q = rw (shown_value e h q) at room

  pub first_room : {f : List ℕ} → l ≡ Both → f ≡ e.field → length (bulk f) ≤ n
  first_room {f} h q = front_room (bulk f) (bulk e.value) (rw (shown_both e h q refl) at room)

  pub both_room : {f v : List ℕ} → l ≡ Both → f ≡ e.field → v ≡ e.value → length (bulk f ++ bulk v) ≤ n
  both_room h q r = rw (shown_both e h q r) at room

-- what is shown of the slots from one on
unfoldable pub shown_from : ℕ → List ℕ → Word → Listing → ℕ → List ℕ
shown_from now b k l from = flatten (flat_map (listed_slot l) (keep (live_of_key now k) (drop from (decode b).slots)))

-- the next live entry of a key from a slot on stands in slot i
pub record NextLive (now : ℕ) (b : List ℕ) (k : Word) (from i : ℕ) : Type 0 where
  pub well : well_formed b ≡ true
  pub found : Some i ≡ lowest_from from (live_of_key now k) (decode b).slots

pub next_live : {now : ℕ} {b : List ℕ} {k : Word} {from i : ℕ} → well_formed b ≡ true → Some i ≡ lowest_from from (live_of_key now k) (decode b).slots
    → NextLive now b k from i
next_live w h = record { well = w; found = h }

module _ {now : ℕ} {b : List ℕ} {k : Word} {from i : ℕ} (n : NextLive now b k from i) where
  pub live_held : Held b i
  unfolding live_of_key or_else
  live_held = found_held (live_of_key now k) b from i refl n.well n.found

  pub live_few : i < slots_most
  live_few = omega (arith, live_held.inside, length_decode b, (decode_valid b n.well).most)

  pub live_later : (from ≤ i) × (i < length (decode b).slots)
  live_later = ((keep_from (live_of_key now k) (decode b).slots from i n.found).0, omega (arith, live_held.inside, length_decode b))

  -- it is shown, and then what is left after it
  pub shown_next : (l : Listing) → Next (shown_from now b k l from) (flatten (listed l (entry_at (decode b).slots i))) (shown_from now b k l (i + 1))
  unfolding shown_from flat_map listed_slot or_else
  shown_next l =
      record {
        parts = rw ((keep_from (live_of_key now k) (decode b).slots from i n.found).1, held_entry (decode b).slots i live_held.held)
            (flatten_append (listed l (entry_at (decode b).slots i)) (flat_map (listed_slot l) (keep (live_of_key now k) (drop (i + 1) (decode b).slots))));
      }

module _ (now : ℕ) (b : List ℕ) (k : Word) (l : Listing) (from : ℕ) where
  -- there is none
  pub shown_end : None ≡ lowest_from from (live_of_key now k) (decode b).slots → shown_from now b k l from ≡ []
  unfolding shown_from flat_map flatten
  shown_end h = rw (keep_over (live_of_key now k) (decode b).slots from h)

width_entry : (l : Listing) (e : Entry) → length (listed l e) ≡ width_of l
unfolding listed width_of
width_entry Fields e = refl
width_entry Values e = refl
width_entry Both e = refl

-- as many elements as the kept slots have
pub shown_count : (l : Listing) (p : Slot → Bool) (ss : List Slot) → p None ≡ false
    → length (flat_map (listed_slot l) (keep p ss)) ≡ length (keep p ss) * width_of l
unfolding keep flat_map listed_slot or_else
shown_count l p [] z = omega arith
shown_count l p (None ∷ ss) z = rw z (shown_count l p ss z)
shown_count l p (Some e ∷ ss) z = go (p (Some e)) (shown_count l p ss z)
  where
    go : (t : Bool) → length (flat_map (listed_slot l) (keep p ss)) ≡ length (keep p ss) * width_of l
        → length (flat_map (listed_slot l) (cond t (Some e ∷ keep p ss) (keep p ss))) ≡ length (cond t (Some e ∷ keep p ss) (keep p ss)) * width_of l
    go true q =
        rw (length-append (listed l e) (flat_map (listed_slot l) (keep p ss)), width_entry l e, q)
        (add_comm (width_of l) (length (keep p ss) * width_of l) ∙ sym (suc-mul (length (keep p ss)) (width_of l)))
    go false q = q

-- ---- one entry taken out

module _ (k f : Word) (now : ℕ) (ss : List Slot) where
  other_stays : (s : Slot) → holds k f s ≡ false → emptied (λ e. same e.key k && same e.field f) s ≡ s
  unfolding emptied holds or_else
  other_stays None h = refl
  other_stays (Some e) h = rw h

  named_goes : (s : Slot) → holds k f s ≡ true → emptied (λ e. same e.key k && same e.field f) s ≡ None
  unfolding emptied holds or_else
  named_goes None h = refl
  named_goes (Some e) h = rw h

  pub removed_nowhere : lowest_slot (holds k f) ss ≡ None → change now (remove k f) ss ≡ ss
  unfolding change
  removed_nowhere h =
      ext_get_or None (without _ ss) ss (length_without _ ss) λ j l.
      get_d_without _ ss j ∙ other_stays (get_or ss j None) (lowest_nowhere (holds k f) ss (holds_none k f) h j)

  module _ (a : Apart ss) (i : ℕ) (h : lowest_slot (holds k f) ss ≡ Some i) where
    found : Lowest (holds k f) ss i
    found = lowest_some (holds k f) ss i h

    pub removed_one : change now (remove k f) ss ≡ set ss i None
    unfolding change
    removed_one =
        ext_get_or None (without _ ss) (set ss i None) (length_without _ ss ∙ sym (length-set ss i None)) λ j l.
        get_d_without _ ss j ∙ go j (eqb j i) refl ∙ sym (get_d_set ss i None found.inside j)
      where
        go : (j : ℕ) (t : Bool) → eqb j i ≡ t → emptied (λ e. same e.key k && same e.field f) (get_or ss j None) ≡ cond t None (get_or ss j None)
        go j true q = rw (eqb-true j i q) (named_goes (get_or ss i None) found.here)
        go j false q = other_stays (get_or ss j None) (holds_once k f ss a i j (λ e. eqb-false j i q (sym e)) found.here)

    -- no other slot is kept
    pub kept_one : length (keep (holds k f) ss) ≡ 1
    kept_one =
        rw (keep_lowest (holds k f) ss i h)
        (ap suc (ap length (keep_nothing (holds k f) (drop (suc i) ss) (nothing (lowest_slot (holds k f) (drop (suc i) ss)) refl))))
      where
        nothing : (o : Option ℕ) → lowest_slot (holds k f) (drop (suc i) ss) ≡ o → o ≡ None
        nothing None q = refl
        nothing (Some j) q =
            let t = lowest_some (holds k f) (drop (suc i) ss) j q in
            let away : holds k f (get_or ss (suc i + j) None) ≡ false = holds_once k f ss a i (suc i + j) (λ e. omega arith) found.here in
            both_ways (rw (get_or-drop (suc i) ss j None) at t.here) away

-- what removing the entry that was looked for leaves, and how many that was
module _ (k f : Word) (b : List ℕ) (w : well_formed b ≡ true) {r : Option ℕ} (h : r ≡ lowest_slot (holds k f) (decode b).slots) where
  pub removes_nothing : r ≡ None → Removes k f (decode b) b 0
  removes_nothing q =
      let nowhere : lowest_slot (holds k f) (decode b).slots ≡ None = found_nothing (lowest_slot (holds k f) (decode b).slots) (sym q ∙ h) in
      record {
        store = λ now. holds_slots (removed_nowhere k f now (decode b).slots nowhere) (holds_self w);
        count = sym (ap length (keep_nothing (holds k f) (decode b).slots nowhere));
      }

  pub removes_one : {i : ℕ} → r ≡ Some i → {d : List ℕ} → Holds d (with_slot i None (decode b)) → Removes k f (decode b) d 1
  removes_one {i} q x =
      let there : lowest_slot (holds k f) (decode b).slots ≡ Some i = found_at (lowest_slot (holds k f) (decode b).slots) i (sym q ∙ h) in
      record {
        store = λ now. holds_slots (removed_one k f now (decode b).slots (decode_valid b w).apart i there) x;
        count = sym (kept_one k f 0 (decode b).slots (decode_valid b w).apart i there);
      }
