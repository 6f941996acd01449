-- What the theorems about the two operations say, in words of their own: no search.
use Rattle.std.specs.Prelude.{None, Some}
use Rattle.std.specs.Prelude.{◌≡◌, ◌⊎◌, ◌↔◌, Bool, true, false, cond, not, ◌&&◌, ℕ, ◌+◌, ◌≤◌, ◌<◌, ltb, eqb, length, take, drop, get_or}
use mathlib.Core.List.{List, [], ◌∷◌, ◌++◌, Memᴰ}
use Rattle.wire.specs.Lists.{all}
use Rattle.wire.specs.Integers.{value, is_natural}
use Rattle.store.specs.Layout.{time_limit}
use Rattle.store.specs.Store.{Entry, Slot, clock_of, well_formed}
use Rattle.store.specs.Time.{live}
use Rattle.compare.specs.declared.Place.{Place}
use Rattle.compare.specs.Listing.{only_second, different, Line, lines}

-- slot i holds an entry that is live at an instant
pub record LiveAt (instant : ℕ) (ss : List Slot) (i : ℕ) (e : Entry) : Type 0 where
  pub here : get_or ss i None ≡ Some e
  pub live : live instant e ≡ true

-- some slot does
pub record LiveIn (instant : ℕ) (ss : List Slot) (e : Entry) : Type 0 where
  pub slot : ℕ
  pub at : LiveAt instant ss slot e

-- two stores have the same live entries: key, field, value, version and expiry
abbrev pub SameLive : ℕ → List Slot → List Slot → Type 0
SameLive instant first second = (e : Entry) → LiveIn instant first e ↔ LiveIn instant second e

-- two entries have the same key and field
pub record SameName (e other : Entry) : Type 0 where
  pub key : e.key ≡ other.key
  pub field : e.field ≡ other.field

-- no live entry has the key and the field of an entry
abbrev pub Missing : ℕ → List Slot → Entry → Type 0
Missing instant ss e = (other : Entry) → LiveIn instant ss other → SameName e other → ⊥

-- a live entry has the key and the field of an entry, and is not the same: another value, version or expiry
pub record Changed (instant : ℕ) (ss : List Slot) (e : Entry) : Type 0 where
  pub other : Entry
  pub live : LiveIn instant ss other
  pub named : SameName e other
  pub changed : e ≡ other → ⊥

abbrev pub line : ℕ → Entry → ℕ → Line
line m e i = record { mark = m; entry = e; slot = i }

-- a line with a mark, and with another mark in its place
unfoldable pub has_mark : ℕ → Line → Bool
has_mark m l = eqb l.mark m

abbrev pub remarked : ℕ → Line → Line
remarked m l = line m l.entry l.slot

-- each line has a lower slot than those after it
unfoldable pub ascending : List Line → Bool
ascending [] = true
ascending (l ∷ ls) = all (λ m. ltb l.slot m.slot) ls && ascending ls

-- lines of the first store's slots, in order, and then lines of the second's, in order
pub record InOrder (ls : List Line) : Type 0 where
  pub firsts : List Line
  pub seconds : List Line
  pub parts : ls ≡ firsts ++ seconds
  pub not_second : all (λ l. not (has_mark only_second l)) firsts ≡ true
  pub all_second : all (has_mark only_second) seconds ≡ true
  pub ordered : ascending firsts ≡ true
  pub also_ordered : ascending seconds ≡ true

-- a text is a line: its mark, and three numbers with a space before each, then a newline; the numbers are plain and mean the two lengths and the slot
pub record Spelled (l : Line) (t : List ℕ) : Type 0 where
  pub key : List ℕ
  pub field : List ℕ
  pub slot : List ℕ
  pub whole : t ≡ l.mark ∷ 32 ∷ (key ++ (32 ∷ (field ++ (32 ∷ (slot ++ (10 ∷ []))))))
  pub key_plain : is_natural key ≡ true
  pub key_length : value key ≡ length l.entry.key
  pub field_plain : is_natural field ≡ true
  pub field_length : value field ≡ length l.entry.field
  pub slot_plain : is_natural slot ≡ true
  pub slot_number : value slot ≡ l.slot

-- a text is lines, one after the other
pub data Written : List Line → List ℕ → Type 0 where
  nothing : Written [] []
  next : {l : Line} {ls : List Line} {t u : List ℕ} → Spelled l t → Written ls u → Written (l ∷ ls) (t ++ u)

-- a text stands at the start of an output, as many bytes as are counted; the bytes beyond are as they were
pub record Outputs (shown before after : List ℕ) (count : ℕ) : Type 0 where
  pub counted : count ≡ length shown
  pub starts : take (length shown) after ≡ shown
  pub beyond : drop (length shown) after ≡ drop (length shown) before
  pub size : length after ≡ length before

-- a key and a field are marked `~`
pub record MarkedDifferent (instant : ℕ) (first second : List Slot) (k f : List ℕ) : Type 0 where
  pub entry : Entry
  pub slot : ℕ
  pub listed : Memᴰ (line different entry slot) (lines instant first second)
  pub key : entry.key ≡ k
  pub field : entry.field ≡ f

-- slot i of a store holds a live entry of a key and a field
pub record LiveNamed (instant : ℕ) (k f : List ℕ) (ss : List Slot) (i : ℕ) (e : Entry) : Type 0 where
  pub at : LiveAt instant ss i e
  pub key : e.key ≡ k
  pub field : e.field ≡ f

-- every live entry of a key and a field has a version of at most n
abbrev pub AtMost : ℕ → List ℕ → List ℕ → List Slot → ℕ → Type 0
AtMost instant k f ss n = (i : ℕ) (e : Entry) → LiveNamed instant k f ss i e → e.version ≤ n

-- every live entry of a key and a field has a version below n
abbrev pub Below : ℕ → List ℕ → List ℕ → List Slot → ℕ → Type 0
Below instant k f ss n = (i : ℕ) (e : Entry) → LiveNamed instant k f ss i e → e.version < n

-- there is no live entry of a key and a field
abbrev pub NoLive : ℕ → List ℕ → List ℕ → List Slot → Type 0
NoLive instant k f ss = (i : ℕ) (e : Entry) → LiveNamed instant k f ss i e → ⊥

-- a value is that of a live entry of a key and a field in one of two stores, and in neither has a live one a higher version
pub record Newest (instant : ℕ) (k f : List ℕ) (first second : List Slot) (v : List ℕ) : Type 0 where
  pub entry : Entry
  pub slot : ℕ
  pub shown : LiveNamed instant k f first slot entry ⊎ LiveNamed instant k f second slot entry
  pub value : v ≡ entry.value
  pub most : AtMost instant k f first entry.version
  pub also_most : AtMost instant k f second entry.version

-- a place lies in the bytes of the second store where it names that one, else in those of the first
abbrev pub Inside : List ℕ → List ℕ → Place → Type 0
Inside first second p = p.start + p.size ≤ length (cond (eqb p.which 2) second first)

-- both stores are well formed, and the instant is no earlier than a clock and below the limit
pub record Proper (first second : List ℕ) (instant : ℕ) : Type 0 where
  pub well : well_formed first ≡ true
  pub also_well : well_formed second ≡ true
  pub not_before : clock_of first ≤ instant
  pub nor_before : clock_of second ≤ instant
  pub in_time : instant < time_limit

-- why a call is refused: 2, or 11 where neither store is damaged
pub data Refusal (first second : List ℕ) (instant : ℕ) : ℕ → Type 0 where
  damaged_first : well_formed first ≡ false → Refusal first second instant 2
  damaged_second : well_formed second ≡ false → Refusal first second instant 2
  before_first : well_formed first ≡ true → well_formed second ≡ true → instant < clock_of first → Refusal first second instant 11
  before_second : well_formed first ≡ true → well_formed second ≡ true → instant < clock_of second → Refusal first second instant 11
  too_late : well_formed first ≡ true → well_formed second ≡ true → time_limit ≤ instant → Refusal first second instant 11
