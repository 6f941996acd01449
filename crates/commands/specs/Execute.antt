-- One record: its clock and its command, done on a store (01, "Time" and "Answers that say no").
use Rattle.std.specs.Prelude.{Option, None, Some}
use Rattle.std.specs.Prelude.{Bool, false, cond, not, ◌&&◌, ◌||◌, List, [], ◌∷◌, ℕ, suc, ltb, length}
use Rattle.wire.specs.Lists.{any, keep, or_else}
use Rattle.wire.specs.Bytes.{same}
use Rattle.wire.specs.Words.{Word}
use Rattle.store.specs.Layout.{version_most}
use Rattle.store.specs.Store.{Entry, Slot, Store, with_clock, with_slots, decode, encode, holds}
use Rattle.store.specs.Time.{now_at, live, room_slot, without}
use Rattle.commands.specs.Refusal.{error_line}
use Rattle.wire.specs.Checks.{Check, ◌when◌, first_applying}
use Rattle.commands.specs.Command.{Command, key_of, fields_of}
use Rattle.commands.specs.Parse.{Parsed, parse}
use Rattle.commands.specs.Parse.Parsed.{refused, accepted}
use Rattle.commands.specs.Effect.{Change, Effect, effect, change_all}
use Rattle.commands.specs.Effect.Change.{write, remove}

-- a dead entry of a key and one of some fields
unfoldable pub named_dead : ℕ → Word → List Word → Entry → Bool
named_dead now k fs e = same e.key k && any (same e.field) fs && not (live now e)

-- "if it names fields, every dead entry it names is removed next"
unfoldable pub sweep : ℕ → Word → List Word → List Slot → List Slot
sweep now k fs ss = without (named_dead now k fs) ss

abbrev pub swept : ℕ → Word → List Word → Store → Store
swept now k fs s = with_slots (sweep now k fs s.slots) s

-- 23: "version would pass its largest, at any pair of an EXHMSET"
unfoldable pub passes : Change → Bool
passes (write e) = ltb version_most e.version
passes (remove k f) = false

-- whether a change writes the entry of a key and a field
unfoldable pub writes : Word → Word → Change → Bool
writes k f (write e) = holds k f (Some e)
writes k f (remove _ _) = false

-- a field that a change would add, unless a later change writes it too
unfoldable pub adds : Change → List Change → List Slot → Bool
adds (write e) later ss = not (any (holds e.key e.field) ss || any (writes e.key e.field) later)
adds (remove k f) later ss = false

-- how many fields changes would add, "a repeated field counted once"
unfoldable pub added : List Change → List Slot → ℕ
added [] ss = 0
added (c ∷ cs) ss =
    let n : ℕ = added cs ss in
    cond (adds c cs ss) (suc n) n

-- slots empty or dead
unfoldable pub room : ℕ → List Slot → ℕ
room now ss = length (keep (room_slot now) ss)

-- 20: "version differs"; 21: "stored value is no plain integer"; 22: "sum outside signed 64 bits, under MIN or over MAX"; 24: "more new fields
-- than slots empty or dead"
unfoldable pub late_checks : ℕ → Effect → List Slot → List Check
late_checks now e ss =
    20 when e.stale
    ∷ 21 when e.not_integer
    ∷ 22 when e.overflows
    ∷ 23 when any passes e.changes
    ∷ 24 when ltb (room now ss) (added e.changes ss)
    ∷ []

-- what a record gives: the number of its refusal if it is refused, its reply and the store that it leaves
pub record Outcome : Type 0 where
  pub refusal : Option ℕ
  pub reply : List ℕ
  pub store : Store

abbrev pub refused_with : ℕ → Store → Outcome
refused_with n s = record { refusal = Some n; reply = error_line n; store = s }

abbrev pub done_with : List ℕ → Store → Outcome
done_with reply s = record { refusal = None; reply = reply; store = s }

-- an effect on a store whose clock is set and whose named dead entries are gone: "20 to 24 set the clock and remove named dead entries only."
unfoldable pub settle : ℕ → Effect → Store → Outcome
settle now e s =
    or_else (first_applying (late_checks now e s.slots))
    (done_with e.reply (with_slots (change_all now e.changes s.slots) s))
    λ n. refused_with n s

-- a command on a store whose clock is set
unfoldable pub run_on : ℕ → Command → Store → Outcome
run_on now c s =
    let cleared : Store = swept now (key_of c) (fields_of c) s in
    settle now (effect now c cleared.slots) cleared

-- "Every command that passes checks 10 to 18 sets the store's clock to now"
unfoldable pub run : ℕ → Command → Store → Outcome
run now c s = run_on now c (with_clock now s)

-- "10 to 18 use the record and leave the whole store."
unfoldable pub perform : ℕ → Parsed → Store → Outcome
perform now (refused n) s = refused_with n s
perform now (accepted c) s = run now c s

-- "Now is the larger of the store's clock and the record's."
unfoldable pub exec : ℕ → List ℕ → Store → Outcome
exec clock command s = perform (now_at clock s) (parse (now_at clock s) clock command) s

-- the same on a store's bytes
pub record Done : Type 0 where
  pub reply : List ℕ
  pub store : List ℕ

unfoldable pub exec_bytes : ℕ → List ℕ → List ℕ → Done
exec_bytes clock command b =
    let o : Outcome = exec clock command (decode b) in
    record { reply = o.reply; store = encode o.store }
