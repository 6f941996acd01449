-- The request's example and cases beside it, as rows of texts. proofs/Examples shows that the definitions give every row.
use Rattle.std.specs.Prelude.{Option, None, Some}
use Rattle.std.specs.Prelude.{List, [], ◌∷◌, ◌++◌, ℕ, take, replicate}
use Prim.Native.String.{String}
use Rattle.wire.specs.Bytes.{text}
use Rattle.store.specs.Store as stored
use Rattle.store.specs.Store.{Slot, Store, encode}
use Rattle.compare.specs.declared.Place.{Place}
use Rattle.compare.specs.Listing.{listing}
use Rattle.compare.specs.Newer.{place_of, part_at}
use Rattle.compare.specs.Calls.{Answer, compare, newer_in}

abbrev pub entry : String → String → String → ℕ → Option ℕ → Slot
entry k f v n x = Some (stored.entry (text k) (text f) (text v) n x)

abbrev pub store_of : ℕ → List Slot → Store
store_of clock ss = record { clock = clock; slots = ss }

-- ---- listings

-- an instant, what two stores hold, and their listing
pub record ListingRow : Type 0 where
  pub name : String
  pub instant : ℕ
  pub first : List Slot
  pub second : List Slot
  pub shown : String

abbrev pub listing_row : String → ℕ → List Slot → List Slot → String → ListingRow
listing_row n t a b s = record { name = n; instant = t; first = a; second = b; shown = s }

unfoldable pub listing_given : ListingRow → List ℕ
listing_given r = listing r.instant (store_of 0 r.first) (store_of 0 r.second)

unfoldable pub listing_expected : ListingRow → List ℕ
listing_expected r = text r.shown

unfoldable pub listing_rows : List ListingRow
listing_rows =
    -- "For entries a=1 in the first and a=2, b=1 in the second, key m, all at version 1 with no expiry, both stores filled from slot 0"
    listing_row "the request's example" 0
    (entry "m" "a" "1" 1 None ∷ None ∷ [])
    (entry "m" "a" "2" 1 None ∷ entry "m" "b" "1" 1 None ∷ [])
    "~ 1 1 0\n> 1 1 1\n"
    ∷ listing_row "the same, swapped" 0
    (entry "m" "a" "2" 1 None ∷ entry "m" "b" "1" 1 None ∷ [])
    (entry "m" "a" "1" 1 None ∷ None ∷ [])
    "~ 1 1 0\n< 1 1 1\n"
    ∷ listing_row "alike, in other slots" 0
    (entry "m" "a" "1" 1 None ∷ entry "m" "b" "2" 3 (Some 9) ∷ [])
    (None ∷ entry "m" "b" "2" 3 (Some 9) ∷ entry "m" "a" "1" 1 None ∷ [])
    ""
    ∷ listing_row "another version alone" 0 (entry "m" "a" "1" 1 None ∷ []) (entry "m" "a" "1" 2 None ∷ []) "~ 1 1 0\n"
    ∷ listing_row "another expiry alone" 0 (entry "m" "a" "1" 1 (Some 7) ∷ []) (entry "m" "a" "1" 1 (Some 8) ∷ []) "~ 1 1 0\n"
    ∷ listing_row "no expiry, and some" 0 (entry "m" "a" "1" 1 None ∷ []) (entry "m" "a" "1" 1 (Some 8) ∷ []) "~ 1 1 0\n"
    ∷ listing_row "an empty value" 0 (entry "m" "a" "" 1 None ∷ []) (entry "m" "a" "1" 1 None ∷ []) "~ 1 1 0\n"
    ∷ listing_row "live until the instant before its expiry" 6 (entry "m" "a" "1" 1 (Some 7) ∷ []) (None ∷ []) "< 1 1 0\n"
    ∷ listing_row "dead in the first at the instant" 7 (entry "m" "a" "1" 1 (Some 7) ∷ []) (entry "m" "a" "1" 1 (Some 8) ∷ []) "> 1 1 0\n"
    ∷ listing_row "dead in the second at the instant" 7 (entry "m" "a" "1" 1 None ∷ []) (entry "m" "a" "1" 1 (Some 7) ∷ []) "< 1 1 0\n"
    ∷ listing_row "dead in both" 9 (entry "m" "a" "1" 1 (Some 7) ∷ []) (entry "m" "a" "2" 1 (Some 8) ∷ []) ""
    ∷ listing_row "another key" 0
    (entry "m" "a" "1" 1 None ∷ entry "m" "b" "1" 1 None ∷ [])
    (entry "n" "a" "1" 1 None ∷ entry "m" "b" "1" 1 None ∷ [])
    "< 1 1 0\n> 1 1 0\n"
    ∷ listing_row "another field" 0 (entry "m" "a" "1" 1 None ∷ []) (entry "m" "b" "1" 1 None ∷ []) "< 1 1 0\n> 1 1 0\n"
    ∷ listing_row "key and field are told apart" 0 (entry "ab" "c" "1" 1 None ∷ []) (entry "a" "bc" "1" 1 None ∷ []) "< 2 1 0\n> 1 2 0\n"
    ∷ listing_row "slots in order, the first store's before the second's" 0
    (entry "m" "c" "1" 1 None ∷ None ∷ entry "m" "a" "1" 1 None ∷ entry "m" "b" "1" 1 None ∷ [])
    (entry "m" "e" "1" 1 None ∷ entry "m" "a" "1" 2 None ∷ None ∷ entry "m" "d" "1" 1 None ∷ [])
    "< 1 1 0\n~ 1 1 2\n< 1 1 3\n> 1 1 0\n> 1 1 3\n"
    ∷ listing_row "empty key and field" 0 (entry "" "" "1" 1 None ∷ []) (None ∷ []) "< 0 0 0\n"
    ∷ listing_row "two digits" 0
    (replicate 12 None ++ (entry "0123456789abcdef" "98200012345678901234567890123456" "1" 1 None ∷ []))
    (replicate 10 None ++ (entry "0123456789" "982000123456" "1" 1 None ∷ []))
    "< 16 32 12\n> 10 12 10\n"
    ∷ listing_row "three digits" 0 (replicate 123 None ++ (entry "m" "a" "1" 1 None ∷ [])) (None ∷ []) "< 1 1 123\n"
    ∷ []

-- ---- the newer value

-- an instant, two stores, a key and a field; the refusal, which store, the place and the part shown
pub record NewerRow : Type 0 where
  pub name : String
  pub instant : ℕ
  pub first : Store
  pub second : Store
  pub key : String
  pub field : String
  pub place : Place
  pub shown : String

abbrev pub found : ℕ → ℕ → ℕ → Place
found which start size = record { refusal = 0; which = which; start = start; size = size }

abbrev pub refused_by : ℕ → Place
refused_by n = record { refusal = n; which = 0; start = 0; size = 0 }

abbrev pub newer_row : String → ℕ → Store → Store → String → String → Place → String → NewerRow
newer_row n t a b k f p s = record { name = n; instant = t; first = a; second = b; key = k; field = f; place = p; shown = s }

pub record NewerShown : Type 0 where
  pub place : Place
  pub shown : List ℕ

unfoldable pub newer_given : NewerRow → NewerShown
newer_given r =
    let first : List ℕ = encode r.first in
    let second : List ℕ = encode r.second in
    let place : Place = place_of first second (newer_in first second (text r.key) (text r.field) r.instant) in
    record { place = place; shown = part_at first second place }

unfoldable pub newer_expected : NewerRow → NewerShown
newer_expected r = record { place = r.place; shown = text r.shown }

unfoldable pub newer_rows : List NewerRow
newer_rows =
    newer_row "the request's example: the first store's on a tie" 0
    (store_of 0 (entry "m" "a" "1" 1 None ∷ []))
    (store_of 0 (entry "m" "a" "2" 1 None ∷ entry "m" "b" "1" 1 None ∷ []))
    "m" "a" (found 1 80 1) "1"
    ∷ newer_row "a tie in later slots" 0
    (store_of 0 (None ∷ None ∷ None ∷ entry "m" "a" "12" 7 None ∷ []))
    (store_of 0 (None ∷ entry "m" "a" "34" 7 None ∷ []))
    "m" "a" (found 1 464 2) "12"
    ∷ newer_row "higher in the second" 0
    (store_of 0 (entry "m" "a" "1" 3 None ∷ []))
    (store_of 0 (None ∷ entry "m" "a" "22" 4 None ∷ []))
    "m" "a" (found 2 208 2) "22"
    ∷ newer_row "higher in the first" 0
    (store_of 0 (entry "m" "a" "1" 256 None ∷ []))
    (store_of 0 (entry "m" "a" "2" 255 None ∷ []))
    "m" "a" (found 1 80 1) "1"
    ∷ newer_row "dead in the second, though higher" 5
    (store_of 0 (entry "m" "a" "1" 1 None ∷ []))
    (store_of 0 (entry "m" "a" "2" 9 (Some 5) ∷ []))
    "m" "a" (found 1 80 1) "1"
    ∷ newer_row "only in the second" 0 (store_of 0 (None ∷ [])) (store_of 0 (entry "m" "b" "7" 0 None ∷ [])) "m" "b" (found 2 80 1) "7"
    ∷ newer_row "an empty value of the second" 0
    (store_of 0 (entry "m" "a" "1" 1 None ∷ []))
    (store_of 0 (entry "m" "a" "" 2 None ∷ []))
    "m" "a" (found 2 80 0) ""
    ∷ newer_row "in neither" 0 (store_of 0 (entry "m" "a" "1" 1 None ∷ [])) (store_of 0 (None ∷ [])) "m" "b" (found 0 0 0) ""
    ∷ newer_row "a key that begins with one that is held" 0
    (store_of 0 (entry "0123456789abcdef" "a" "1" 1 None ∷ []))
    (store_of 0 (None ∷ []))
    "0123456789abcdef0" "a" (found 0 0 0) ""
    ∷ newer_row "the first damaged" 0 (store_of 0 []) (store_of 0 (entry "m" "a" "1" 1 None ∷ [])) "m" "a" (refused_by 2) ""
    ∷ newer_row "the second damaged, and the instant too early" 0 (store_of 1 (entry "m" "a" "1" 1 None ∷ [])) (store_of 0 []) "m" "a" (refused_by 2) ""
    ∷ newer_row "earlier than the first clock" 4 (store_of 5 (entry "m" "a" "1" 1 None ∷ [])) (store_of 4 (None ∷ [])) "m" "a" (refused_by 11) ""
    ∷ newer_row "earlier than the second clock" 4 (store_of 4 (entry "m" "a" "1" 1 None ∷ [])) (store_of 5 (None ∷ [])) "m" "a" (refused_by 11) ""
    ∷ newer_row "not earlier than a clock" 5 (store_of 5 (entry "m" "a" "1" 1 None ∷ [])) (store_of 5 (None ∷ [])) "m" "a" (found 1 80 1) "1"
    ∷ newer_row "the last instant" 4102444799999 (store_of 0 (entry "m" "a" "1" 1 None ∷ [])) (store_of 0 (None ∷ [])) "m" "a" (found 1 80 1) "1"
    ∷ newer_row "past it" 4102444800000 (store_of 0 (entry "m" "a" "1" 1 None ∷ [])) (store_of 0 (None ∷ [])) "m" "a" (refused_by 11) ""
    ∷ []

-- ---- the listing's call

-- an instant, two stores and an output of so many bytes, each 55; the refusal, the listing's length, and the output's first bytes
pub record CallRow : Type 0 where
  pub name : String
  pub instant : ℕ
  pub first : Store
  pub second : Store
  pub size : ℕ
  pub refusal : ℕ
  pub written : ℕ
  pub shown : String

abbrev pub call_row : String → ℕ → Store → Store → ℕ → ℕ → ℕ → String → CallRow
call_row n t a b s r w x = record { name = n; instant = t; first = a; second = b; size = s; refusal = r; written = w; shown = x }

pub record CallShown : Type 0 where
  pub refusal : ℕ
  pub written : ℕ
  pub shown : List ℕ

unfoldable pub call_given : CallRow → CallShown
call_given r =
    let answer : Answer = compare (encode r.first) (encode r.second) r.instant (replicate r.size 55) in
    record { refusal = answer.compared.refusal; written = answer.compared.written; shown = take 18 answer.output }

unfoldable pub call_expected : CallRow → CallShown
call_expected r = record { refusal = r.refusal; written = r.written; shown = text r.shown }

unfoldable pub call_rows : List CallRow
call_rows =
    call_row "the request's example" 0
    (store_of 0 (entry "m" "a" "1" 1 None ∷ []))
    (store_of 0 (entry "m" "a" "2" 1 None ∷ entry "m" "b" "1" 1 None ∷ []))
    16000 0 16 "~ 1 1 0\n> 1 1 1\n77"
    ∷ call_row "the output one byte short: 3" 5 (store_of 5 (None ∷ [])) (store_of 0 (None ∷ [])) 15999 3 0 "777777777777777777"
    ∷ call_row "11 before 3" 4 (store_of 5 (None ∷ [])) (store_of 0 (None ∷ [])) 2 11 0 "77"
    ∷ call_row "2 before 11 and 3" 4 (store_of 5 (None ∷ [])) (store_of 0 []) 2 2 0 "77"
    ∷ call_row "3, with no output at all" 5 (store_of 5 (None ∷ [])) (store_of 0 (None ∷ [])) 0 3 0 ""
    ∷ []
