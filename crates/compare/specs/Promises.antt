-- What the functions of compare ask and answer, in the terms of the other definitions.
use Rattle.std.specs.Prelude.{Option, None, Some, Result, Ok, Err}
use Rattle.std.specs.Prelude.{◌≡◌, not, List, ◌∷◌, ◌++◌, ℕ, get_or}
use Rattle.wire.specs.Lists.{only_if, or_else}
use Rattle.wire.specs.Bytes.{text}
use Rattle.store.specs.Store.{Entry, Slot, decode, entry_at}
use Rattle.store.specs.Promises.{Held}
use Rattle.compare.specs.declared.Compared.{Compared}
use Rattle.compare.specs.declared.check.Refusal.{Refusal}
use Rattle.compare.specs.declared.check.Refusal.TheVariants.{Damaged, InstantOutOfRange, OutputShort}
use Rattle.compare.specs.declared.Pass.{Pass}
use Rattle.compare.specs.declared.Pass.TheVariants as passes
use Rattle.compare.specs.Listing.{agree, only_first, only_second, different, first_mark, second_mark, line_of, lines_from, spaced, listing_of}

-- ---- searches

-- a slot that was found holds an entry
abbrev pub HeldIn : List ℕ → Option ℕ → Type 0
HeldIn b found = (i : ℕ) → found ≡ Some i → Held b i

-- ---- refusals

unfoldable pub refusal_number : Refusal → ℕ
refusal_number Damaged = 2
refusal_number InstantOutOfRange = 11
refusal_number OutputShort = 3

-- the number of a refusal, if it is one
unfoldable pub refused_as : {T : Type 0} → Result T Refusal → Option ℕ
refused_as (Ok x) = None
refused_as (Err r) = Some (refusal_number r)

-- a listing's length, or a refusal, as the call answers it
unfoldable pub compared_of : Result ℕ Refusal → Compared
compared_of (Ok n) = record { refusal = 0; written = n }
compared_of (Err r) = record { refusal = refusal_number r; written = 0 }

-- ---- marks

-- by the slot in which a name is live
abbrev pub first_mark_for : Entry → List Slot → Option ℕ → Option ℕ
first_mark_for e second found = or_else found (Some only_first) (λ j. only_if (not (agree e (entry_at second j))) different)

abbrev pub second_mark_for : Option ℕ → Option ℕ
second_mark_for found = or_else found (Some only_second) (λ j. None)

-- the marks of a pass
unfoldable pub pass_mark : Pass → ℕ → List Slot → Entry → Option ℕ
pass_mark passes.First instant other = first_mark instant other
pass_mark passes.Second instant other = second_mark instant other

-- ---- text

-- a line of a mark, two lengths and a slot number
unfoldable pub marked : ℕ → ℕ → ℕ → ℕ → List ℕ
marked mark key field slot = mark ∷ (spaced key ++ (spaced field ++ (spaced slot ++ text "\n")))

-- what a pass writes of slot i, and of all slots
unfoldable pub slot_text : Pass → ℕ → List ℕ → List ℕ → ℕ → List ℕ
slot_text pass instant b other i = listing_of (line_of instant (pass_mark pass instant (decode other).slots) i (get_or (decode b).slots i None))

unfoldable pub pass_text : Pass → ℕ → List ℕ → List ℕ → List ℕ
pass_text pass instant b other = listing_of (lines_from instant (pass_mark pass instant (decode other).slots) 0 (decode b).slots)
