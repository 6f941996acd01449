-- Searches in stores of three slots, as rows of texts (02, M-103). proofs/Examples shows that the definitions give every row.
use Rattle.std.specs.Prelude.{Option, None, Some}
use Rattle.std.specs.Prelude.{List, [], ◌∷◌, ℕ}
use Prim.Native.String.{String}
use Rattle.wire.specs.Bytes.{text}
use Rattle.store.specs.declared.Searched.{Searched}
use Rattle.store.specs.Store as stored
use Rattle.store.specs.Store.{Slot, Store, encode, decode}
use Rattle.store.specs.Promises.{searched}

-- a key, a field, three slots of a store whose clock is 9, the slot that is found and the bytes that are compared
pub record SearchRow : Type 0 where
  pub name : String
  pub key : String
  pub field : String
  pub slots : List Slot
  pub found : Option ℕ
  pub compared : ℕ

abbrev pub search_row : String → String → String → Slot → Slot → Slot → Option ℕ → ℕ → SearchRow
search_row n k f a b c o m = record { name = n; key = k; field = f; slots = a ∷ b ∷ c ∷ []; found = o; compared = m }

abbrev pub expiring : Option ℕ → String → String → Slot
expiring x k f = Some (stored.entry (text k) (text f) (text "1") 1 x)

abbrev pub held : String → String → Slot
held = expiring None

-- its expiry is earlier than the clock
abbrev pub dead : String → String → Slot
dead = expiring (Some 5)

unfoldable pub store_for : SearchRow → Store
store_for r = record { clock = 9; slots = r.slots }

unfoldable pub search_given : SearchRow → Searched
search_given r = searched (text r.key) (text r.field) (decode (encode (store_for r))).slots

unfoldable pub search_expected : SearchRow → Searched
search_expected r = record { found = r.found; compared = r.compared }

unfoldable pub search_rows : List SearchRow
search_rows =
    search_row "nothing held" "mob" "tag1" None None None None 0
    ∷ search_row "another key length" "mob" "tag1" (held "mo" "tag1") (held "mobs" "tag1") None None 0
    ∷ search_row "another field length" "mob" "tag1" (held "mob" "tag") (held "mob" "tag11") None None 0
    ∷ search_row "as many bytes in all" "mob" "tag1" (held "mobt" "ag1") (held "mo" "btag1") None None 0
    ∷ search_row "the first byte differs" "mob" "tag1" (held "rob" "tag1") None None None 1
    ∷ search_row "the key's last byte differs" "mob" "tag1" (held "mop" "tag1") None None None 3
    ∷ search_row "the field's first byte differs" "mob" "tag1" (held "mob" "rag1") None None None 4
    ∷ search_row "the last byte differs" "mob" "tag1" (held "mob" "tag2") None None None 7
    ∷ search_row "key and field differ" "mob" "tag1" (held "mop" "rag1") None None None 3
    ∷ search_row "a match" "mob" "tag1" (held "mob" "tag1") None None (Some 0) 7
    ∷ search_row "a match after a difference" "mob" "tag1" (held "mob" "tag2") (held "mob" "tag1") None (Some 1) 14
    ∷ search_row "slots after the match" "mob" "tag1" (held "mob" "tag1") (held "mob" "tag2") (held "rob" "tag1") (Some 0) 7
    ∷ search_row "a match in the last slot" "mob" "tag1" (held "mo" "tag1") (held "rob" "tag1") (held "mob" "tag1") (Some 2) 8
    ∷ search_row "an empty slot before" "mob" "tag1" (held "mob" "rag1") None (held "mob" "tag1") (Some 2) 11
    ∷ search_row "no match" "mob" "tag1" (held "mob" "tag2") (held "mob" "rag1") (held "rob" "tag1") None 12
    ∷ search_row "empty key and field" "" "" (held "mob" "tag1") None (held "" "") (Some 2) 0
    ∷ search_row "empty key and field, and only empty slots" "" "" None None None None 0
    ∷ search_row "an empty key" "" "tag1" (held "" "tag2") None (held "" "tag1") (Some 2) 8
    ∷ search_row "an empty field" "mob" "" (held "mop" "") None (held "mob" "") (Some 2) 6
    ∷ search_row "a dead slot that matches" "mob" "tag1" (held "mob" "tag2") (dead "mob" "tag1") None (Some 1) 14
    ∷ search_row "a dead slot that differs" "mob" "tag1" (dead "mob" "tag2") (held "mob" "tag1") None (Some 1) 14
    ∷ search_row "ear tags" "mob" "826000123000001" (held "mob" "826000123000002") (held "mob" "826000123000101") (held "mob" "826000123000001") (Some 2) 52
    ∷ search_row "a key of 16 and a field of 32 bytes" "aaaaaaaaaaaaaaaa" "bbbbbbbbbbbbbbbbbbbbbbbbbbbbbbbb"
    (held "aaaaaaaaaaaaaaac" "bbbbbbbbbbbbbbbbbbbbbbbbbbbbbbbb")
    (held "aaaaaaaaaaaaaaaa" "bbbbbbbbbbbbbbbbbbbbbbbbbbbbbbbc")
    (held "aaaaaaaaaaaaaaaa" "bbbbbbbbbbbbbbbbbbbbbbbbbbbbbbbb")
    (Some 2) 112
    ∷ search_row "a key that no slot has room for" "aaaaaaaaaaaaaaaaa" "tag1" (held "aaaaaaaaaaaaaaaa" "tag1") None None None 0
    ∷ []
