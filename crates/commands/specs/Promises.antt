-- What the functions that do a command ask and answer, in the terms of the other definitions.
use Rattle.std.specs.Prelude.{Option, None, Some, Result, Ok, Err, ⊤}
use Rattle.std.specs.Prelude.{◌≡◌, Bool, true, false, cond, not, ◌&&◌, ◌||◌, ℕ, suc, ◌+◌, ◌-◌, ◌≤◌, ◌<◌, ltb, eqb, ℤ, negsuc, ◌+ℤ◌, length, zero, ◌/◌, drop}
use mathlib.Core.List.{List, [], ◌∷◌, map, flat_map}
use Rattle.wire.specs.Lists.{any, keep, or_else, only_if}
use Rattle.wire.specs.Bytes.{same}
use Rattle.wire.specs.Integers.{lowest64, highest64, within}
use Rattle.wire.specs.Words.{Word, words_most, word_at}
use Rattle.wire.specs.declared.integers.Signed.{Signed}
use Rattle.wire.specs.Replies.{integer, laid_over}
use Rattle.wire.specs.Promises.{signed_for, integer_of, Laid}
use Rattle.store.specs.Layout.{version_most, time_limit}
use Rattle.store.specs.Store.{Entry, blank, with_version, with_expiry, Slot, Store, with_slots, decode, well_formed, holds, entry_at}
use Rattle.store.specs.Time.{key_exists, live_of_key, lowest_slot, entry_of, slot_for, put, empty_slot, dead_slot}
use Rattle.store.specs.Valid.{Short}
use Rattle.store.specs.Promises.{Held, Holds}
use Rattle.commands.specs.declared.Lifetime.{Lifetime}
use Rattle.commands.specs.declared.Lifetime.TheVariants.{Clear}
use Rattle.commands.specs.declared.Versioning.TheVariants.{Next}
use Rattle.commands.specs.declared.Sum.{Sum}
use Rattle.commands.specs.declared.Stamping.{Stamping}
use Rattle.commands.specs.declared.Sight.{Sight}
use Rattle.commands.specs.declared.Executed.{Executed}
use Rattle.commands.specs.declared.field.Settled.{Settled}
use Rattle.commands.specs.declared.field.Settled.TheVariants as settleds
use Rattle.commands.specs.declared.refusal.Refusal.{Refusal}
use Rattle.commands.specs.declared.refusal.Refusal.TheVariants.{VersionOverflow}
use Rattle.commands.specs.Refusal.{buffer_least, error_line}
use Rattle.commands.specs.Command.{Pair, Command}
use Rattle.commands.specs.Command.Command.{set_many}
use Rattle.commands.specs.Parse.{pairs_of, too_long, on_deed, beyond, deed_lifetime}
use Rattle.commands.specs.declared.Listing.{Listing}
use Rattle.commands.specs.declared.Listing.TheVariants.{Fields, Values, Both}
use Rattle.commands.specs.declared.Question.{Question}
use Rattle.commands.specs.Effect.{Effect, change, change_all, time_left, reply, listed_slot, writes_of, written, writing, increment_effect}
use Rattle.commands.specs.Effect.Change.{remove}
use Rattle.commands.specs.Execute.{Outcome, Done, passes, settle}
use Rattle.commands.specs.ParsePromises.{refusal_number}

-- ---- the store

-- a look for a key and a field found its slot, or that there is none
abbrev pub Looked : List ℕ → List ℕ → List ℕ → Option ℕ → Type 0
Looked b k f r = r ≡ lowest_slot (holds k f) (decode b).slots

-- the slot for an entry of a key and a field
unfoldable pub look_for : ℕ → List ℕ → List ℕ → List Slot → Option ℕ
look_for now k f ss = (slot_for now k f ss)

-- the slot for an entry whose own slot, or that it has none, is known
unfoldable pub slot_after : ℕ → Option ℕ → List Slot → Option ℕ
slot_after now (Some i) ss = Some i
slot_after now None ss = (or_else (lowest_slot empty_slot ss) (lowest_slot (dead_slot now) ss) Some)

-- a store with an entry put in its place
unfoldable pub with_put : ℕ → Entry → Store → Store
with_put now e s = with_slots (put now e s.slots) s

-- ---- replies

-- the time left, as sign and magnitude
unfoldable pub time_left_of : ℕ → ℕ → Option ℕ → Signed
time_left_of now unit x = signed_for (time_left now unit x)

-- what EXHVER replies of a missing field, as sign and magnitude
unfoldable pub no_version_of : ℕ → List ℕ → List Slot → Signed
no_version_of now k ss = signed_for (cond (key_exists now k ss) (negsuc 1) (negsuc 0))

-- ---- commands done

-- what checks 14 and 18 leave: words that a slot can hold, and an instant within its limit
pub record WithinLimits (c : Command) : Type 0 where
  pub short : too_long c ≡ false
  pub timed : on_deed (λ d. beyond (deed_lifetime d)) c ≡ false

-- what every command asks: a well-formed store, a time before the limit, and a buffer for any reply
pub record Opened (time : ℕ) (bytes out : List ℕ) : Type 0 where
  pub well : well_formed bytes ≡ true
  pub soon : time < time_limit
  pub room : buffer_least ≤ length out

-- the longest answer about one field: an array of a value and a version
abbrev pub answer_most : ℕ
answer_most = 146

-- an outcome in bytes: its reply is laid at the buffer's start, and the bytes are its store
pub record Does (o : Outcome) (after before buffer : List ℕ) (r : ℕ) : Type 0 where
  pub laid : Laid o.reply before buffer r
  pub holds : Holds after o.store

-- a record was done on a store's bytes: the store, the reply's length, and the reply over the start of the buffer
pub record Replied (d : Done) (store before after : List ℕ) (r : Executed) : Type 0 where
  pub size : r.replied ≡ length d.reply
  pub stored : store ≡ d.store
  pub bytes : after ≡ laid_over d.reply before

-- the entry of a slot that was found
unfoldable pub entry_for : List Slot → Option ℕ → Option Entry
entry_for ss (Some i) = Some (entry_at ss i)
entry_for ss None = None

-- ---- many fields

-- the answer about a field of a key
unfoldable pub answer_about : ℕ → List ℕ → Word → Question → Word → List ℕ
answer_about now b k q f = reply now (decode b).slots k q (entry_of k f (decode b).slots)

-- the answers about a field, by the question
abbrev pub answers_about : ℕ → List ℕ → Word → Word → Question → List ℕ
answers_about now b k f q = answer_about now b k q f

-- the answers about some fields of a key
abbrev pub answers_of : ℕ → List ℕ → Word → Question → List Word → List (List ℕ)
answers_of now b k q fs = map (answer_about now b k q) fs

-- a command names at most so many fields: its first words are its name and the key
abbrev pub fields_most : ℕ
fields_most = words_most - 2

-- what a command on fields asks: not too many of them, a well-formed store, and a buffer for any reply
pub record FieldsReady (fields : List Word) (bytes out : List ℕ) : Type 0 where
  pub few : length fields ≤ fields_most
  pub well : well_formed bytes ≡ true
  pub room : buffer_least ≤ length out

-- what a listing shows of the live entries of a key, in slot order
unfoldable pub listed_of : ℕ → List ℕ → Word → Listing → List (List ℕ)
listed_of now b k l = flat_map (listed_slot l) (keep (live_of_key now k) (decode b).slots)

-- how many elements a listing shows of an entry
unfoldable pub width_of : Listing → ℕ
width_of Fields = 1
width_of Values = 1
width_of Both = 2

-- the entry of a key and a field is gone, and r says how many that was
pub record Removes (k f : Word) (s : Store) (after : List ℕ) (r : ℕ) : Type 0 where
  pub store : (now : ℕ) → Holds after (with_slots (change now (remove k f) s.slots) s)
  pub count : r ≡ length (keep (holds k f) s.slots)

-- the entries of a key and some fields are gone, and r says how many that were
pub record Deletes (k : Word) (fs : List Word) (s : Store) (after : List ℕ) (r : ℕ) : Type 0 where
  pub store : (now : ℕ) → Holds after (with_slots (change_all now (map (remove k) fs) s.slots) s)
  pub count : r ≡ length (keep (λ x. any (λ f. holds k f x) fs) s.slots)

-- what a field has, a missing one version 0 and no expiry
unfoldable pub held_version : Option Entry → ℕ
held_version found = or_else found 0 (λ e. e.version)

unfoldable pub held_expiry : Option Entry → Option ℕ
held_expiry found = or_else found None (λ e. e.expiry)

-- an entry of which only the version, or only the expiry, is looked at
abbrev pub versioned : ℕ → Entry
versioned v = with_version v blank

abbrev pub expiring : Option ℕ → Entry
expiring x = with_expiry x blank

-- ---- fields among words

-- the first word of each of n groups of so many words
unfoldable pub firsts : ℕ → ℕ → List Word → List Word
firsts step zero ws = []
firsts step (suc n) ws = word_at 0 ws ∷ firsts step n (drop step ws)

-- the first word of each whole group of so many words
unfoldable pub each_first : ℕ → List Word → List Word
each_first step ws = firsts step (length ws / step) ws

-- ---- pairs

-- the fields of the pairs that words say
unfoldable pub fields_in : List Word → List Word
fields_in ws = map (λ p. p.field) (pairs_of ws)

-- how often a field is among some
unfoldable pub times_in : Word → List Word → ℕ
times_in f fs = length (keep (λ g. same g f) fs)

-- the version of a field of a key, 0 where it is missing
unfoldable pub version_in : Word → List Slot → Word → ℕ
version_in k ss f = held_version (entry_of k f ss)

-- whether a version passes its largest where fields are written one after the other
unfoldable pub overflowing : (Word → ℕ) → List Word → Bool
overflowing version [] = false
overflowing version (f ∷ fs) = ltb version_most (version f + suc (times_in f fs)) || overflowing version fs

-- how many of some fields are not held, a repeated one counted once
unfoldable pub missing : Word → List Word → List Slot → ℕ
missing k [] ss = 0
missing k (f ∷ fs) ss = cond (not (any (holds k f) ss || any (λ g. same g f) fs)) (suc (missing k fs ss)) (missing k fs ss)

-- 1 for a field that was not found and does not come again
unfoldable pub new_field : Option ℕ → ℕ → ℕ
new_field (Some i) again = 0
new_field None again = cond (eqb again 0) 1 0

-- a number that tells what the times of a field that was found or not, with a version, would tell: whether the version passes its largest, and whether
-- the field is new
pub record Telling (found : Option ℕ) (held times n : ℕ) : Type 0 where
  pub most : n ≤ times
  pub passes : ltb version_most (held + (n + 1)) ≡ ltb version_most (held + (times + 1))
  pub added : new_field found n ≡ new_field found times

-- what writing fields one after the other would do
unfoldable pub survey_of : Word → List Word → List Slot → Result ℕ Refusal
survey_of k fs ss = cond (overflowing (version_in k ss) fs) (Err VersionOverflow) (Ok (missing k fs ss))

-- the entry that a pair of a field and a value writes
abbrev pub pair_entry : Word → Word → Word → List Slot → Entry
pair_entry k f v ss = written k f v Next Clear (entry_of k f ss)

-- a pair that can be written
pub record Pairing (b : List ℕ) (k f v : Word) : Type 0 where
  pub well : well_formed b ≡ true
  pub short : Short k f v
  pub version : version_in k (decode b).slots f < version_most

-- pairs that can be written one after the other
pub record Placing (now : ℕ) (k : Word) (ps : List Pair) (b : List ℕ) : Type 0 where
  pub well : well_formed b ≡ true
  pub short : too_long (set_many k ps) ≡ false
  pub numbered : any passes (writes_of now k ps (decode b).slots) ≡ false

-- a store with pairs written one after the other
unfoldable pub with_all : ℕ → Word → List Pair → Store → Store
with_all now k ps s = with_slots (change_all now (writes_of now k ps s.slots) s.slots) s

-- ---- one field

-- a slot that was found holds an entry
abbrev pub HeldAt : List ℕ → Option ℕ → Type 0
HeldAt b found = (i : ℕ) → found ≡ Some i → Held b i

-- a well-formed store in which a slot was found, or none
pub record FoundIn (b : List ℕ) (found : Option ℕ) : Type 0 where
  pub well : well_formed b ≡ true
  pub held : HeldAt b found

-- a well-formed store in which a key and a field were looked for
pub record Sought (b k f : List ℕ) (found : Option ℕ) : Type 0 where
  pub well : well_formed b ≡ true
  pub looked : Looked b k f found

-- a key, a field, a value and a lifetime that a slot can hold
pub record Storable (k f v : List ℕ) (t : Lifetime) : Type 0 where
  pub short : Short k f v
  pub lifetime : beyond t ≡ false

-- the entry that is written where one was looked for
abbrev pub written_at : Sight → Stamping → Word → Word → Word → List Slot → Entry
written_at sight stamping k f v ss = written k f v stamping.versioning stamping.lifetime (entry_for ss sight.found)

-- EXHINCRBY
abbrev pub incremented : Sum → Stamping → Word → Word → Option Entry → Effect
incremented sum stamping k f found =
    increment_effect k f (integer_of sum.amount) (integer_of sum.least) (integer_of sum.greatest) stamping.versioning stamping.lifetime found

-- what EXHINCRBY makes of the integer that it finds
unfoldable pub bounded_sum : ℤ → Sum → Option ℤ
bounded_sum start sum =
    let z : ℤ = start +ℤ integer_of sum.amount in
    only_if (within lowest64 highest64 z && within (integer_of sum.least) (integer_of sum.greatest) z) z

-- ---- how a deed settles

-- the number of the refusal, if it is one
unfoldable pub refused_as : {T : Type 0} → Result T Refusal → Option ℕ
refused_as (Ok x) = None
refused_as (Err r) = Some (refusal_number r)

-- an entry was written in its place, or refused by 23 or 24
pub record Wrote (now : ℕ) (e : Entry) (before after : List ℕ) (r : Result ⊤ Refusal) : Type 0 where
  pub answer : refused_as r ≡ (settle now (writing false e []) (decode before)).refusal
  pub holds : Holds after (settle now (writing false e []) (decode before)).store

-- how many fields a write adds, by what was found
unfoldable pub fields_added : Option ℕ → Signed
fields_added (Some i) = record { negative = false; magnitude = 0 }
fields_added None = record { negative = false; magnitude = 1 }

-- the reply by how a deed settled, where questions are still to be answered
unfoldable pub settled_reply : (Question → List ℕ) → Result Settled Refusal → List ℕ
settled_reply about (Ok (settleds.Replied z)) = integer (integer_of z)
settled_reply about (Ok (settleds.Asked q)) = about q
settled_reply about (Err r) = error_line (refusal_number r)

-- a reply that there is room for
unfoldable pub tellable : Result Settled Refusal → Bool
tellable (Ok (settleds.Replied z)) = within lowest64 highest64 (integer_of z)
tellable (Ok (settleds.Asked q)) = true
tellable (Err r) = true

-- a deed's outcome: its reply, and the bytes, which a question leaves as they are
pub record Settles (about : Question → List ℕ) (o : Outcome) (before after : List ℕ) (r : Result Settled Refusal) : Type 0 where
  pub reply : o.reply ≡ settled_reply about r
  pub told : tellable r ≡ true
  pub holds : Holds after o.store
  pub asked : (q : Question) → r ≡ Ok (settleds.Asked q) → after ≡ before

-- an effect, of a deed that is no question, on a store's bytes
abbrev pub Changes : ℕ → Effect → List ℕ → List ℕ → Result Settled Refusal → Type 0
Changes now e before after r = (about : Question → List ℕ) → Settles about (settle now e (decode before)) before after r
