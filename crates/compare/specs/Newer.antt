-- The newer value of one field (02, M-102): which store has it, in which slot, and where in that store's bytes it stands.
use Rattle.std.specs.Prelude.{Option, None, Some}
use Rattle.std.specs.Prelude.{cond, List, ℕ, leb, eqb, length}
use Rattle.wire.specs.Bytes.{part}
use Rattle.store.specs.Store.{Slot, decode, entry_at}
use Rattle.store.specs.Layout.{value_start}
use Rattle.compare.specs.declared.Which.{Which}
use Rattle.compare.specs.declared.Which.TheVariants.{First, Second, Neither, Refused}
use Rattle.compare.specs.declared.Place.{Place}
use Rattle.compare.specs.Listing.{live_slot_of}

-- "whichever store's bytes holds the higher version, the first store's on a tie; if only one has it live, that one's": by the slots in which it is live
unfoldable pub newer_of : List Slot → List Slot → Option ℕ → Option ℕ → Which
newer_of first second None None = Neither
newer_of first second (Some i) None = First i
newer_of first second None (Some j) = Second j
newer_of first second (Some i) (Some j) = cond (leb (entry_at second j).version (entry_at first i).version) (First i) (Second j)

unfoldable pub newer_slot : ℕ → List ℕ → List ℕ → List Slot → List Slot → Which
newer_slot instant k f first second = newer_of first second (live_slot_of instant k f first) (live_slot_of instant k f second)

-- "A companion call says which store, neither, or the refusal.": number and place for each case
unfoldable pub place_of : List ℕ → List ℕ → Which → Place
place_of first second (First i) = record { refusal = 0; which = 1; start = value_start i; size = length (entry_at (decode first).slots i).value }
place_of first second (Second j) = record { refusal = 0; which = 2; start = value_start j; size = length (entry_at (decode second).slots j).value }
place_of first second Neither = record { refusal = 0; which = 0; start = 0; size = 0 }
place_of first second (Refused n) = record { refusal = n; which = 0; start = 0; size = 0 }

-- "the part of whichever store's bytes ..; an empty part of the first if neither, or on a refusal"
unfoldable pub part_at : List ℕ → List ℕ → Place → List ℕ
part_at first second p = part p.start p.size (cond (eqb p.which 2) second first)
