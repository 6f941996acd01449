-- The listing (02, M-102, "Lay two handsets side by side"): what two stores differ in at an instant, as lines and as text.
use Rattle.std.specs.Prelude.{Option, None, Some}
use Rattle.std.specs.Prelude.{Bool, true, false, cond, not, ◌&&◌, ℕ, suc, eqb, length}
use mathlib.Core.List.{List, [], ◌∷◌, ◌++◌, map, flatten}
use Rattle.wire.specs.Lists.{every, only_if, or_else}
use Rattle.wire.specs.Bytes.{same, text}
use Rattle.wire.specs.Integers.{natural_text}
use Rattle.store.specs.Store.{Entry, Slot, Store, holds, entry_at}
use Rattle.store.specs.Time.{live, live_slot, lowest_slot}

-- "Compare live entries only, by key and field.": a slot that holds an entry of a key and a field live at an instant, and the lowest such slot
unfoldable pub live_of : ℕ → List ℕ → List ℕ → Slot → Bool
live_of instant k f s = holds k f s && live_slot instant s

unfoldable pub live_slot_of : ℕ → List ℕ → List ℕ → List Slot → Option ℕ
live_slot_of instant k f ss = lowest_slot (live_of instant k f) ss

-- `~`: "in both with another value, version or expiry"
unfoldable pub same_expiry : Option ℕ → Option ℕ → Bool
same_expiry None None = true
same_expiry None (Some t) = false
same_expiry (Some s) None = false
same_expiry (Some s) (Some t) = eqb s t

unfoldable pub agree : Entry → Entry → Bool
agree e other =
    every
    (same e.value other.value
    ∷ eqb e.version other.version
    ∷ same_expiry e.expiry other.expiry
    ∷ []
    )

-- "`<` only in the first, `>` only in the second, `~` in both": the bytes of the marks
abbrev pub only_first : ℕ
only_first = 60

abbrev pub only_second : ℕ
only_second = 62

abbrev pub different : ℕ
different = 126

-- how a live entry of the first store is marked beside the second, if it is, and a live entry of the second beside the first
unfoldable pub first_mark : ℕ → List Slot → Entry → Option ℕ
first_mark instant second e =
    or_else (live_slot_of instant e.key e.field second) (Some only_first) (λ j. only_if (not (agree e (entry_at second j))) different)

unfoldable pub second_mark : ℕ → List Slot → Entry → Option ℕ
second_mark instant first e = or_else (live_slot_of instant e.key e.field first) (Some only_second) (λ j. None)

-- a line: its mark, the entry that it is about, and the "slot number in the store that the line is about"
pub record Line : Type 0 where
  pub mark : ℕ
  pub entry : Entry
  pub slot : ℕ

-- "Write one line each": of slot i, where it holds a live entry that gets a mark
unfoldable pub line_of : ℕ → (Entry → Option ℕ) → ℕ → Slot → List Line
line_of instant mark i None = []
line_of instant mark i (Some e) = cond (live instant e) (or_else (mark e) [] (λ m. record { mark = m; entry = e; slot = i } ∷ [])) []

-- "slots in order": the lines of slots numbered from i on
unfoldable pub lines_from : ℕ → (Entry → Option ℕ) → ℕ → List Slot → List Line
lines_from instant mark i [] = []
lines_from instant mark i (s ∷ ss) = line_of instant mark i s ++ lines_from instant mark (suc i) ss

-- "first for the first store's slots in order, then for entries only in the second, in its slot order"; "slots from 0"
unfoldable pub lines : ℕ → List Slot → List Slot → List Line
lines instant first second = lines_from instant (first_mark instant second) 0 first ++ lines_from instant (second_mark instant first) 0 second

-- the mark, "then a space, key length, space, field length, space, slot number .., newline. Decimal"
unfoldable pub spaced : ℕ → List ℕ
spaced n = text " " ++ natural_text n

unfoldable pub line_text : Line → List ℕ
line_text l = l.mark ∷ (spaced (length l.entry.key) ++ (spaced (length l.entry.field) ++ (spaced l.slot ++ text "\n")))

unfoldable pub listing_of : List Line → List ℕ
listing_of ls = flatten (map line_text ls)

unfoldable pub listing : ℕ → Store → Store → List ℕ
listing instant first second = listing_of (lines instant first.slots second.slots)
