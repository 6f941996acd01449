-- What the two operations of M-102 come to: the page to open for them. Each theorem has one plain sentence above it; the proofs are laws of the other
-- files. `lines` are the lines of a listing, `listing` its text; `compare` is the listing's call, `newer_in` the companion call of the newer value, `place_of` its
-- numbers and place, `part_at` the part that is shown, each over any bytes. A `Valid` store is one that well-formed bytes hold (feeder's `Demands`).
use mathlib.Core.Path.{◌≡◌, refl, sym}
use mathlib.Core.Logic.{◌⊎◌, ◌↔◌, ◌≢◌}
use mathlib.Core.List.{List, [], map, Memᴰ}
use Prim.Native.Nat.{ℕ, ◌≤◌, ◌<◌}
use lib.ListN.{length, take, drop}
use Rattle.wire.specs.Lists.{keep}
use Rattle.wire.specs.Bytes.{part}
use Rattle.store.specs.Store.{Entry, Store, decode, entry_at}
use Rattle.store.specs.Valid.{Valid}
use Rattle.store.specs.Layout.{value_start}
use Rattle.store.proofs.ReadAt.{value_part}
use Rattle.compare.specs.declared.Which.TheVariants.{First, Second, Neither, Refused}
use Rattle.compare.specs.Listing.{only_first, only_second, different, Line, lines, listing}
use Rattle.compare.specs.Newer.{place_of, part_at}
use Rattle.compare.specs.Calls.{compare, newer_in}
use Rattle.compare.specs.Claims.{LiveAt, SameLive, Missing, Changed, line, has_mark, remarked, InOrder, Written, Outputs, MarkedDifferent, LiveNamed, AtMost, Below, NoLive, Newest, Inside, Proper, Refusal}
use Rattle.compare.specs.Examples.{listing_given, listing_expected, listing_rows, newer_given, newer_expected, newer_rows, call_given, call_expected, call_rows}
use Rattle.compare.proofs.Examples as examples
use Rattle.compare.proofs.ListingSize.{listing_short}
use Rattle.compare.proofs.ListingTells as tells
use Rattle.compare.proofs.SwappedLines.{swapped}
use Rattle.compare.proofs.NewerPlaces as places
use Rattle.compare.proofs.Exactly as exactly

-- ---- the listing

-- A `<` line about an entry stands in the listing exactly if the entry is live in that slot of the first store, and the second has no live entry of its key and field.
pub only_first_if : (instant : ℕ) (first second : Store) (e : Entry) (i : ℕ)
    → Memᴰ (line only_first e i) (lines instant first.slots second.slots) ↔ (LiveAt instant first.slots i e × Missing instant second.slots e)
only_first_if instant first second = tells.only_first_lem instant first.slots second.slots

-- A `>` line stands in it exactly if the entry is live in that slot of the second store, and the first has no live entry of its key and field.
pub only_second_if : (instant : ℕ) (first second : Store) (e : Entry) (i : ℕ)
    → Memᴰ (line only_second e i) (lines instant first.slots second.slots) ↔ (LiveAt instant second.slots i e × Missing instant first.slots e)
only_second_if instant first second = tells.only_second_lem instant first.slots second.slots

-- A `~` line stands in it, beside a valid second store, exactly if the entry is live in that slot of the first store, and the second has a live entry of its key and
-- field that is not the same.
pub different_if : (instant : ℕ) (first second : Store) → Valid second → (e : Entry) (i : ℕ)
    → Memᴰ (line different e i) (lines instant first.slots second.slots) ↔ (LiveAt instant first.slots i e × Changed instant second.slots e)
different_if instant first second v = tells.only_changed instant first.slots second.slots v.apart

-- Every line has one of the three marks.
pub three_marks : (instant : ℕ) (first second : Store) (l : Line) → Memᴰ l (lines instant first.slots second.slots)
    → (l.mark ≡ only_first) ⊎ ((l.mark ≡ only_second) ⊎ (l.mark ≡ different))
three_marks instant first second = tells.marks_known instant first.slots second.slots

-- The lines of the first store's slots come first, then those of entries only in the second, each in slot order.
pub in_slot_order : (instant : ℕ) (first second : Store) → InOrder (lines instant first.slots second.slots)
in_slot_order instant first second = tells.ordered instant first.slots second.slots

-- The text of the listing is its lines one after the other: the mark, then key length, field length and slot in decimal with a space before each, and a newline.
pub listing_written : (instant : ℕ) (first second : Store) → Written (lines instant first.slots second.slots) (listing instant first second)
unfolding listing
listing_written instant first second = tells.written (lines instant first.slots second.slots)

-- The listing of two valid stores is empty exactly if they have the same live entries at the instant: the same keys and fields with the same value, version and expiry.
pub empty_listing_if : (instant : ℕ) (first second : Store) → Valid first → Valid second → (listing instant first second ≡ []) ↔ SameLive instant first.slots second.slots
empty_listing_if instant first second v w = tells.empty_exactly instant first second v.apart w.apart

-- With the stores swapped, the `<` lines become the `>` lines, in the same order.
pub swapped_lines : (instant : ℕ) (first second : Store)
    → map (remarked only_second) (keep (has_mark only_first) (lines instant first.slots second.slots)) ≡ keep (has_mark only_second) (lines instant second.slots first.slots)
swapped_lines instant first second = swapped instant first.slots second.slots

-- With two valid stores swapped, the keys and fields marked `~` are the same.
pub swapped_different : (instant : ℕ) (first second : Store) → Valid first → Valid second → (k f : List ℕ)
    → MarkedDifferent instant first.slots second.slots k f ↔ MarkedDifferent instant second.slots first.slots k f
swapped_different instant first second v w k f =
    (tells.marked_swaps instant first.slots second.slots v.apart w.apart k f, tells.marked_swaps instant second.slots first.slots w.apart v.apart k f)

-- The listing of two valid stores is never longer than 12,000 bytes.
pub listing_fits : (instant : ℕ) (first second : Store) → Valid first → Valid second → length (listing instant first second) ≤ 12000
listing_fits = listing_short

-- ---- the listing's call

-- It is refused with 2 or 11 exactly as the call of the newer value is, and with 3 exactly if it is not and the output is under 16,000 bytes.
pub compare_refused_if : (first second : List ℕ) (instant : ℕ) (out : List ℕ) (n : ℕ) → n ≢ 0
    → ((compare first second instant out).compared.refusal ≡ n) ↔ (Refusal first second instant n ⊎ ((n ≡ 3) × Proper first second instant × (length out < 16000)))
compare_refused_if = exactly.call_number

-- A refused call writes nothing and changes no byte of the output.
pub compare_refused : (first second : List ℕ) (instant : ℕ) (out : List ℕ) → (compare first second instant out).compared.refusal ≢ 0
    → ((compare first second instant out).compared.written ≡ 0) × ((compare first second instant out).output ≡ out)
compare_refused = exactly.call_refused

-- Any other answers the listing's length, writes the listing at the output's start and leaves the bytes beyond as they were.
pub compare_writes : (first second : List ℕ) (instant : ℕ) (out : List ℕ) → Proper first second instant → 16000 ≤ length out
    → Outputs (listing instant (decode first) (decode second)) out (compare first second instant out).output (compare first second instant out).compared.written
compare_writes = exactly.call_writes

-- ---- the newer value

-- The first store is named, with slot i, exactly if the call is not refused, that slot holds a live entry of the key and the field, and no live one of the second store has a higher version.
pub newer_first_if : (first second k f : List ℕ) (instant i : ℕ)
    → (newer_in first second k f instant ≡ First i)
    ↔ (Proper first second instant × ((e : Entry) × LiveNamed instant k f (decode first).slots i e × AtMost instant k f (decode second).slots e.version))
newer_first_if = exactly.first_exactly

-- The second is named, with slot j, exactly if the call is not refused, that slot holds one, and any live one of the first store has a lower version.
pub newer_second_if : (first second k f : List ℕ) (instant j : ℕ)
    → (newer_in first second k f instant ≡ Second j)
    ↔ (Proper first second instant × ((e : Entry) × LiveNamed instant k f (decode second).slots j e × Below instant k f (decode first).slots e.version))
newer_second_if = exactly.second_exactly

-- Neither is named exactly if the call is not refused and neither store has a live one.
pub newer_neither_if : (first second k f : List ℕ) (instant : ℕ)
    → (newer_in first second k f instant ≡ Neither) ↔ (Proper first second instant × NoLive instant k f (decode first).slots × NoLive instant k f (decode second).slots)
newer_neither_if = exactly.neither_exactly

-- The call is refused with 2 exactly if a store is not well formed, and with 11 exactly if both are and the instant is earlier than a clock or too late.
pub newer_refused_if : (first second k f : List ℕ) (instant n : ℕ) → (newer_in first second k f instant ≡ Refused n) ↔ Refusal first second instant n
newer_refused_if = exactly.refused_exactly

-- Where a store is named, the part shown is the value of a live entry of the key and the field in one of the stores, and no live one in either has a higher version.
pub newest_shown : (first second k f : List ℕ) (instant : ℕ) → (place_of first second (newer_in first second k f instant)).which ≢ 0
    → Newest instant k f (decode first).slots (decode second).slots (part_at first second (place_of first second (newer_in first second k f instant)))
newest_shown = exactly.newest

-- Where none is named, the part shown is empty.
pub nothing_shown : (first second k f : List ℕ) (instant : ℕ) → (place_of first second (newer_in first second k f instant)).which ≡ 0
    → part_at first second (place_of first second (newer_in first second k f instant)) ≡ []
nothing_shown = exactly.none_shown

-- The place lies in the bytes of its store, of the first where no store is named.
pub place_in_store : (first second k f : List ℕ) (instant : ℕ) → Inside first second (place_of first second (newer_in first second k f instant))
place_in_store = exactly.place_inside

-- In numbers: the first store is 1, with the place of the value of that slot; the bytes there are that value, and so is the part shown.
pub place_first : (first second k f : List ℕ) (instant i : ℕ) → newer_in first second k f instant ≡ First i
    → let v = (entry_at (decode first).slots i).value in
    let p = place_of first second (newer_in first second k f instant) in
    (p ≡ record { refusal = 0; which = 1; start = value_start i; size = length v })
    × (take p.size (drop p.start first) ≡ v)
    × (part_at first second p ≡ v)
unfolding place_of part
place_first first second k f instant i h = (rw h, rw h (value_part (places.first_held first second k f instant i h)), sym (places.first_shown first second k f instant i h refl))

-- The second is 2.
pub place_second : (first second k f : List ℕ) (instant j : ℕ) → newer_in first second k f instant ≡ Second j
    → let v = (entry_at (decode second).slots j).value in
    let p = place_of first second (newer_in first second k f instant) in
    (p ≡ record { refusal = 0; which = 2; start = value_start j; size = length v })
    × (take p.size (drop p.start second) ≡ v)
    × (part_at first second p ≡ v)
unfolding place_of part
place_second first second k f instant j h = (rw h, rw h (value_part (places.second_held first second k f instant j h)), sym (places.second_shown first second k f instant j h refl))

-- Neither is 0 throughout.
pub place_neither : (first second k f : List ℕ) (instant : ℕ) → newer_in first second k f instant ≡ Neither
    → place_of first second (newer_in first second k f instant) ≡ record { refusal = 0; which = 0; start = 0; size = 0 }
unfolding place_of
place_neither first second k f instant h = rw h

-- A refusal is its number, and 0 beside it.
pub place_refused : (first second k f : List ℕ) (instant n : ℕ) → newer_in first second k f instant ≡ Refused n
    → place_of first second (newer_in first second k f instant) ≡ record { refusal = n; which = 0; start = 0; size = 0 }
unfolding place_of
place_refused first second k f instant n h = rw h

-- So its number is n, and not 0, exactly if the call is refused with n.
pub place_refused_if : (first second k f : List ℕ) (instant n : ℕ) → n ≢ 0
    → ((place_of first second (newer_in first second k f instant)).refusal ≡ n) ↔ Refusal first second instant n
place_refused_if = exactly.place_refused_exactly

-- A key over 16 bytes or a field over 32 is in neither store.
pub long_name_neither : (first second k f : List ℕ) (instant : ℕ) → Proper first second instant → (16 < length k) ⊎ (32 < length f) → newer_in first second k f instant ≡ Neither
long_name_neither = exactly.long_neither

-- ---- worked cases

-- The definitions give the request's example, and the listings beside it.
pub worked_listings : map listing_given listing_rows ≡ map listing_expected listing_rows
worked_listings = examples.listing_rows_lem

-- They give which store has the newer value and the part shown, refusals too.
pub worked_values : map newer_given newer_rows ≡ map newer_expected newer_rows
worked_values = examples.newer_rows_lem

-- They give what the listing's call answers and the start of the output that it leaves, and its refusals in order.
pub worked_calls : map call_given call_rows ≡ map call_expected call_rows
worked_calls = examples.call_rows_lem
