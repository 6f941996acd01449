-- What well-formedness says of what a store holds, without its bytes: `well_formed b` exactly if `b` is `encode s` of a valid s.
use Rattle.std.specs.Prelude.{None, Some}
use Rattle.std.specs.Prelude.{◌≡◌, false, List, ℕ, ◌≤◌, ◌<◌, length, get_or}
use Rattle.wire.specs.Bytes.{Bytes}
use Rattle.store.specs.Layout.{slots_most, key_most, field_most, value_most, version_most, time_limit}
use Rattle.store.specs.Store.{Entry, Slot, Store, instant_of, clash}

-- a key, a field and a value that a slot has room for
pub record Short (k f v : List ℕ) : Type 0 where
  pub key : length k ≤ key_most
  pub field : length f ≤ field_most
  pub value : length v ≤ value_most

-- an entry that a slot can hold
pub record Fits (e : Entry) : Type 0 where
  pub short : Short e.key e.field e.value
  pub version : e.version ≤ version_most
  pub expiry : instant_of e.expiry ≤ time_limit
  pub key_bytes : Bytes e.key
  pub field_bytes : Bytes e.field
  pub value_bytes : Bytes e.value

abbrev pub FitsSlot : Slot → Type 0
FitsSlot None = Unit {0}
FitsSlot (Some e) = Fits e

-- every slot fits; past the last slot there is none
abbrev pub AllFit : List Slot → Type 0
AllFit ss = (i : ℕ) → FitsSlot (get_or ss i None)

-- no two held slots have the same key and field
abbrev pub Apart : List Slot → Type 0
Apart ss = (i j : ℕ) → i < j → clash (get_or ss i None) (get_or ss j None) ≡ false

-- a store that bytes can hold
pub record Valid (s : Store) : Type 0 where
  pub clock : s.clock < time_limit
  pub least : 1 ≤ length s.slots
  pub most : length s.slots ≤ slots_most
  pub fits : AllFit s.slots
  pub apart : Apart s.slots
