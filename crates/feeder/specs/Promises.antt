-- What the functions of feeder answer, in the terms of the other definitions.
use Rattle.std.specs.Prelude.{Option, None, Some}
use Rattle.std.specs.Prelude.{◌≡◌, List, ◌++◌, ℕ, ◌+◌, ◌≤◌, ◌<◌, length, drop, get_or, Result, Ok, Err}
use Rattle.wire.specs.Lists.{or_else}
use Rattle.feeder.specs.declared.Absorbed.{Absorbed}
use Rattle.feeder.specs.declared.Fed.{Fed}
use Rattle.feeder.specs.declared.Feeder.{Feeder}
use Rattle.feeder.specs.declared.Refusal.{Refusal}
use Rattle.feeder.specs.declared.Refusal.TheVariants as refusals
use Rattle.feeder.specs.declared.record.Joined.{Joined}
use Rattle.feeder.specs.declared.record.Head.{Head}
use Rattle.feeder.specs.declared.record.Head.TheVariants as heads
use Rattle.feeder.specs.declared.scan.Stop.{Stop}
use Rattle.feeder.specs.declared.scan.Stop.TheVariants as stops
use Rattle.feeder.specs.Record as paper
use Rattle.feeder.specs.Record.{first_mark, second_mark, command_at, record_most}
use Rattle.feeder.specs.Stream.{divide}
use Rattle.feeder.specs.Absorb.{first_record}
use Rattle.feeder.specs.Feed.{unfed}

-- ---- the bytes that are read

-- the waiting bytes and those of a piece as one list
abbrev pub joined : Joined → List ℕ
joined j = j.waiting.now ++ j.piece.now

-- ---- the record's head

-- what stands at the start of bytes, as the code answers it
unfoldable pub head_for : paper.Head → Head
head_for paper.Head.skip = heads.Skip
head_for (paper.Head.whole n) = heads.Whole n
head_for paper.Head.wait = heads.Wait

-- ---- where reading stops

-- bytes that are looked at together
abbrev pub block_size : ℕ
block_size = 64

-- at the first record, or at the rest that waits
unfoldable pub stop_of : List ℕ → Stop
stop_of s = or_else (first_record s) (stops.Rest (divide s).skipped) (λ p. stops.Record p.at p.size)

-- the same, so many bytes later
unfoldable pub later_by : ℕ → Stop → Stop
later_by k (stops.Record at size) = stops.Record (k + at) size
later_by k (stops.Rest at) = stops.Rest (k + at)

-- where reading stops that starts at a place
unfoldable pub stop_from : ℕ → List ℕ → Stop
stop_from k s = later_by k (stop_of (drop k s))

-- the bytes at a place of two lists are no mark
abbrev pub NoPair : List ℕ → List ℕ → ℕ → Type 0
NoPair s next i = get_or s i 0 ≡ first_mark → get_or next i 0 ≡ second_mark → ⊥

-- nor are they at any
abbrev pub UnmarkedPairs : List ℕ → List ℕ → Type 0
UnmarkedPairs s next = (i : ℕ) → NoPair s next i

-- no mark begins at a place, whatever comes after the bytes: where the byte there is the mark's first, the next one is there and is not its second
abbrev pub Unmarked : List ℕ → ℕ → Type 0
Unmarked s i = get_or s i 0 ≡ first_mark → (i + 1 < length s) × (get_or s (i + 1) 0 ≡ second_mark → ⊥)

-- no mark begins from a place up to r
pub record UnmarkedUpTo (s : List ℕ) (from r : ℕ) : Type 0 where
  pub ahead : from ≤ r
  pub inside : r ≤ length s
  pub unmarked : (i : ℕ) → from ≤ i → i < r → Unmarked s i

-- a place after `at` from which reading stops where it stops from the one next to `at`
pub record NextPlace (s : List ℕ) (at r : ℕ) : Type 0 where
  pub ahead : at < r
  pub inside : r ≤ length s
  pub stops_there : stop_from (at + 1) s ≡ stop_from r s

-- ---- bytes taken

-- a record at a place ends in the piece, and is no longer than the longest
pub record Completing (w piece : List ℕ) (at size : ℕ) : Type 0 where
  pub beyond : length w ≤ at + (command_at + size)
  pub inside : at + (command_at + size) ≤ length w + length piece
  pub most : command_at + size ≤ record_most

-- ---- the call

-- the number of each refusal
abbrev pub number_of : Refusal → ℕ
number_of refusals.State = 1
number_of refusals.Store = 2
number_of refusals.Reply = 3

-- the number of the refusal that is answered, if there is one
abbrev pub refused_by : Result Unit Refusal → Option ℕ
refused_by (Ok x) = None
refused_by (Err r) = Some (number_of r)

-- what a call answers, where one on a lent state answers this and leaves the state f
abbrev pub fed_for : Result Absorbed Refusal → Feeder → Fed
fed_for (Ok a) f = record { refusal = 0; used = a.used; skipped = a.skipped; replied = a.replied; feeder = f }
fed_for (Err r) f = unfed (number_of r) f
