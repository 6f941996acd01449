-- The calls (02, M-102): their refusals, and what each answers, whatever it is given.
use Rattle.std.specs.Prelude.{not, ◌||◌, List, [], ◌∷◌, ◌++◌, ℕ, leb, ltb, length}
use Rattle.wire.specs.Lists.{or_else}
use Rattle.wire.specs.Checks.{Check, ◌when◌, first_applying}
use Rattle.wire.specs.Replies.{laid_over}
use Rattle.store.specs.Layout.{time_limit}
use Rattle.store.specs.Store.{clock_of, decode, well_formed}
use Rattle.compare.specs.declared.Compared.{Compared}
use Rattle.compare.specs.declared.Which.{Which}
use Rattle.compare.specs.declared.Which.TheVariants.{Refused}
use Rattle.compare.specs.Listing.{listing}
use Rattle.compare.specs.Newer.{newer_slot}

-- "Refusals, in order: store not well formed 2 (first store, then second), instant earlier than a clock or at least 4,102,444,800,000 is 11"
unfoldable pub checks : List ℕ → List ℕ → ℕ → List Check
checks first second instant =
    2 when not (well_formed first)
    ∷ 2 when not (well_formed second)
    ∷ 11 when (ltb instant (clock_of first) || (ltb instant (clock_of second) || leb time_limit instant))
    ∷ []

-- "output under 16,000 bytes is 3 (listing only)"
abbrev pub output_least : ℕ
output_least = 16000

unfoldable pub listing_checks : List ℕ → List ℕ → ℕ → List ℕ → List Check
listing_checks first second instant out = checks first second instant ++ (3 when ltb (length out) output_least ∷ [])

-- what the listing's call answers, with the output as it leaves it
pub record Answer : Type 0 where
  pub compared : Compared
  pub output : List ℕ

-- "on any, no output byte changes"
abbrev pub refusing : ℕ → List ℕ → Answer
refusing n out = record { compared = record { refusal = n; written = 0 }; output = out }

-- the text stands at the output's start; "bytes beyond keep theirs"
abbrev pub answering : List ℕ → List ℕ → Answer
answering shown out = record { compared = record { refusal = 0; written = length shown }; output = laid_over shown out }

unfoldable pub compare : List ℕ → List ℕ → ℕ → List ℕ → Answer
compare first second instant out =
    or_else (first_applying (listing_checks first second instant out))
    (answering (listing instant (decode first) (decode second)) out)
    (λ n. refusing n out)

-- where the newer value of a key and a field is
unfoldable pub newer_in : List ℕ → List ℕ → List ℕ → List ℕ → ℕ → Which
newer_in first second k f instant =
    or_else (first_applying (checks first second instant))
    (newer_slot instant k f (decode first).slots (decode second).slots)
    Refused
